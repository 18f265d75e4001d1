-- How the variables of a path were claimed.
use Rattle.std.proofs.Common.{inl, ◌≡◌, ℕ, ◌+◌, ◌<◌, ◌^◌, List, [], ◌∷◌, ◌++◌, length, take, get_or, All, refl, ap, subst, ◌∙◌, arith, append_assoc}
use Rattle.std.proofs.lemmas.List.{get_or_append_left}
use Rattle.std.proofs.lemmas.List.Elements.{All-push, All-take, All-weaker, All-get_or, All-from_get_or}
use Rattle.claim_words.specs.Words.{word_of, cursor_in}
use Rattle.pop_model.specs.Logs.{LogRecord}
use Rattle.claim_words.specs.Maps.{Pairs}
use Rattle.claim_words.specs.Steps.{Drawn}
use Rattle.claim_words.specs.declared.opening.Opening.{Opening}
use Rattle.claim_words.specs.declared.view.View.{View}
use Rattle.claim_words.proofs.Memberships.{in_left, in_right}
use Rattle.event_finders.specs.Walks.{IsClaimed, Traced, TracedTo, Closes, CloseAll}
use Rattle.event_finders.specs.WalkSteps.{Walked, SeesLast, Finds, Stopped}
use Rattle.event_finders.specs.declared.walking.WalkStop.{WalkStop}
use Rattle.event_finders.specs.declared.walking.WalkStop.TheVariants.{Busy as Met}
use Rattle.event_finders.proofs.WalkSeen.{words_push}

-- it was claimed, whatever was seen since
still : (n : ℕ) (a b : Pairs) (e : ℕ × ℕ) → IsClaimed n a e → IsClaimed n (a ++ b) e
still n a b e m = (m.0, in_left (1 + e.0, m.0) a b m.1, m.2, m.3, m.4)

-- what was seen in two turns
long_seen : (d e f : View) (a b : Pairs) → e.seen ≡ d.seen ++ a → f.seen ≡ e.seen ++ b → f.seen ≡ d.seen ++ (a ++ b)
long_seen d e f a b one two = two ∙ ap (λ (l : Pairs). l ++ b) one ∙ append_assoc d.seen a b

-- all of the path was claimed
all_claimed : (n : ℕ) (d e : View) (p b : Pairs) (t : Traced n d e p) → All (IsClaimed n (t.added ++ b)) p
all_claimed n d e p b t = All-weaker (IsClaimed n t.added) (IsClaimed n (t.added ++ b)) (still n t.added b) p
    (All-from_get_or (IsClaimed n t.added) p (0, 0) t.claimed)

-- so it is traced
traced_all : (n : ℕ) (d e : View) (p a : Pairs) → e.seen ≡ d.seen ++ a → All (IsClaimed n a) p → Traced n d e p
traced_all n d e p a is all =
    record { added = a; seen = is; claimed = λ j less. All-get_or (IsClaimed n a) p j (0, 0) less all }

-- more was seen since
pub trace_on : (n : ℕ) (d e f : View) (p b : Pairs) → Traced n d e p → f.seen ≡ e.seen ++ b → Traced n d f p
trace_on n d e f p b t is =
    traced_all n d f p (t.added ++ b) (long_seen d e f t.added b t.seen is) (all_claimed n d e p b t)

-- a claim put its variable onto the path
pub walked_one : (d e : View) (p : Pairs) (s : ℕ × ℕ) (w : ℕ) → 0 < length p → e.seen ≡ d.seen ++ (word_of s.0, w) ∷ []
    → w < 2 ^ 63 → s.1 ≡ cursor_in w → Walked d e p (p ++ s ∷ [])
walked_one d e p s w some is free at =
    let entry : ℕ × ℕ = (word_of s.0, w) in
    record {
      added = entry ∷ [];
      seen = is;
      on = λ i. omega (arith, words_push i p s);
      begins = get_or_append_left p (s ∷ []) (0, 0) 0 some;
      traced = λ n from t.
          traced_all n from e (p ++ s ∷ []) (t.added ++ entry ∷ []) (long_seen from d e t.added (entry ∷ []) t.seen is)
          (All-push (IsClaimed n (t.added ++ entry ∷ [])) p s (all_claimed n from d p (entry ∷ []) t)
          (w, in_right entry t.added (entry ∷ []) (inl refl), free, omega (arith, at), omega (arith, at)));
    }

-- where a walk stops on it
pub trace_stop : (n : ℕ) (d e f : View) (p : Pairs) (stop : WalkStop) → Traced n d e p → SeesLast e f p → Finds e f stop
    → Stopped n d f p stop
trace_stop n d e f p (Met v w) t last found = record {
  added = t.added;
  seen = long_seen d e f t.added ((word_of v, w) ∷ []) t.seen found;
  claimed = t.claimed;
}
trace_stop n d e f p stop t last found = trace_on n d e f p last.added t last.seen

-- the record is still of a cycle that a path closed
closes_on : (k : Opening) (n : ℕ) (d e f : View) (start : ℕ) (r : LogRecord) (b : Pairs) → Closes k n d e start r
    → f.seen ≡ e.seen ++ b → Closes k n d f start r
closes_on k n d e f start r b c is = record {
  path = c.path;
  led = c.led;
  begins = c.begins;
  traced = trace_on n d e f c.path b c.traced is;
  place = c.place;
  within = c.within;
  goes = c.goes;
  loop = c.loop;
}

-- and so are those of several
pub close_all_on : (k : Opening) (n : ℕ) (d e f : View) (start : ℕ) (rs : List Drawn) (b : Pairs)
    → CloseAll k n d e start rs → f.seen ≡ e.seen ++ b → CloseAll k n d f start rs
close_all_on k n d e f start [] b all is = tt
close_all_on k n d e f start (r ∷ later) b all is =
    (closes_on k n d e f start r.1 b all.0 is, close_all_on k (n + 1) d e f start later b all.1 is)

-- one more behind them
pub close_all_more : (k : Opening) (n m : ℕ) (d e : View) (start : ℕ) (rs : List Drawn) (r : Drawn)
    → CloseAll k n d e start rs → m ≡ n + length rs → Closes k m d e start r.1
    → CloseAll k n d e start (rs ++ r ∷ [])
close_all_more k n m d e start [] r all many one =
    let same : m ≡ n = omega (arith, many) in
    (subst (λ (i : ℕ). Closes k i d e start r.1) same one, tt)
close_all_more k n m d e start (x ∷ later) r all many one =
    (all.0, close_all_more k (n + 1) m d e start later r all.1 (omega (arith, many)) one)

-- nothing was seen since
pub trace_same : (n : ℕ) (d e f : View) (p : Pairs) → Traced n d e p → f.seen ≡ e.seen → Traced n d f p
trace_same n d e f p t same = record { added = t.added; seen = same ∙ t.seen; claimed = t.claimed }

-- and nothing was seen since
pub trace_to_seen : (n : ℕ) (d e f : View) (p : Pairs) (v w : ℕ) → TracedTo n d e p v w → f.seen ≡ e.seen
    → TracedTo n d f p v w
trace_to_seen n d e f p v w t same = record { added = t.added; seen = same ∙ t.seen; claimed = t.claimed }

-- the last variable of a part of the path was popped
pub trace_up : (n : ℕ) (d e f : View) (p : Pairs) (place : ℕ) → place < length p → Traced n d e p → f.seen ≡ e.seen
    → Traced (n + 1) d f (take place p ++ ((get_or p place (0, 0)).0, (get_or p place (0, 0)).1 + 1) ∷ [])
trace_up n d e f p place within t same =
    let P : ℕ × ℕ → Type 0 = IsClaimed (n + 1) t.added in
    let s : ℕ × ℕ = ((get_or p place (0, 0)).0, (get_or p place (0, 0)).1 + 1) in
    let m = t.claimed place within in
    traced_all (n + 1) d f (take place p ++ s ∷ []) t.added (same ∙ t.seen) (All-push P (take place p) s
    (All-take P place p (All-weaker (IsClaimed n t.added) P (λ x m. (m.0, m.1, m.2, m.3, omega (arith, m.4))) p
    (All-from_get_or (IsClaimed n t.added) p (0, 0) t.claimed)))
    (m.0, m.1, m.2, omega (arith, m.3), omega (arith, m.4)))
