-- The log of a pass while it pops, if the log is kept.
use Rattle.std.proofs.Common.{◌≡◌, ◌≢◌, ℕ, zero, suc, ◌+◌, ◌<◌, List, [], ◌∷◌, ◌++◌, length, map, take, Option, Some, None, refl, sym, ap, ap₂, ◌∙◌, subst, arith, slice_get, ◌^◌}
use Rattle.std.proofs.lemmas.Bool.Decides.{nat_tests}
use Rattle.std.proofs.lemmas.Option.{none-some, same_Some}
use Rattle.std.proofs.lemmas.List.{append-nil, append_assoc, nil_from_length, length-append}
use Rattle.pop_model.specs.Popping.{Cube, IsCube}
use Rattle.pop_model.specs.Logs.{LogRecord}
use Rattle.claim_words.specs.Maps.{Pairs, Each, times, look, raise}
use Rattle.claim_words.specs.Steps.{record_held}
use Rattle.claim_words.specs.Machine.{Use, uses_held}
use Rattle.claim_words.specs.KeptLogs.{Kept, HasTickets, HasRoom, Adds, Seals, IsSealable, record_of}
use Rattle.claim_words.proofs.Totals.{is_at-yes}

-- nothing came in
pub adds_none : (a : Option Kept) → Adds a a []
adds_none None = tt
adds_none (Some l) = (refl, sym (append-nil l.loose), omega arith)

-- one use more came in
pub adds_more : (a b c : Option Kept) (us : List Use) (u : Use) → Adds a b us → Adds b c (u ∷ [])
    → Adds a c (us ++ u ∷ [])
adds_more None None None us u h g = tt
adds_more None None (Some n) us u h g = absurd g
adds_more None (Some m) c us u h g = absurd h
adds_more (Some l) None c us u h g = absurd h
adds_more (Some l) (Some m) None us u h g = absurd g
adds_more (Some l) (Some m) (Some n) us u h g = (
  g.0 ∙ h.0,
  g.1 ∙ ap (λ (x : List Use). x ++ u ∷ []) h.1 ∙ append_assoc l.loose us (u ∷ []),
  omega (arith, g.2, h.2, length-append us (u ∷ [])),
)

-- a use takes up room for one
pub room_step : (b c : Option Kept) (u : Use) (n : ℕ) → HasRoom b (suc n) → Adds b c (u ∷ []) → HasRoom c n
room_step None None u n h g = h
room_step None (Some m) u n h g = absurd g
room_step (Some l) None u n h g = absurd g
room_step (Some l) (Some m) u n h g = omega (arith, h, g.2)

-- where there is room for n + 1, there is for one
pub room_one : (b : Option Kept) (n : ℕ) → HasRoom b (suc n) → HasRoom b 1
room_one None n h = h
room_one (Some l) n h = omega (arith, h)

-- one use more
pub uses_push : (e : Cube) (held : Pairs) (i : ℕ) (p : ℕ × ℕ) → slice_get e i ≡ Some p
    → uses_held (take (i + 1) e) held ≡ uses_held (take i e) held ++ (p.0, p.1, look p.0 held) ∷ []
uses_push e held i p at = let next : i + 1 ≡ suc i = omega arith in
    ap (λ (j : ℕ). uses_held (take j e) held) next ∙ go e i at
  where
    go : (l : Cube) (j : ℕ) → slice_get l j ≡ Some p
        → uses_held (take (suc j) l) held ≡ uses_held (take j l) held ++ (p.0, p.1, look p.0 held) ∷ []
    go [] j at = absurd (none-some p at)
    go (q ∷ l) zero at = ap (λ (x : ℕ × ℕ). (x.0, x.1, look x.0 held) ∷ []) (same_Some q p at)
    go (q ∷ l) (suc j) at = ap (λ (x : List Use). (q.0, q.1, look q.0 held) ∷ x) (go l j at)

-- raising a number changes no other
pub look-raise_other : (v u : ℕ) (l : Pairs) → u ≢ v → look u (raise v l) ≡ look u l
look-raise_other v u [] ne = refl
look-raise_other v u (p ∷ ps) ne = grind (arith, nat_tests, look-raise_other v u ps ne)

-- the pairs have the cursors that they had
abbrev pub Same : Pairs → Pairs → Pairs → Type 0
Same held now rest = Each (λ q. look q.0 now ≡ look q.0 held) rest

-- they do before any advance
pub same_first : (held rest : Pairs) → Same held held rest
same_first held [] = tt
same_first held (q ∷ rest) = (refl, same_first held rest)

-- and after an advance of another variable
pub same_next : (held now rest : Pairs) (v : ℕ) → times v rest ≡ 0 → Same held now rest → Same held (raise v now) rest
same_next held now [] v none h = tt
same_next held now (q ∷ rest) v none h =
    let miss : q.0 ≢ v = λ is. absurd (omega (arith, is_at-yes v q is)) in
    (look-raise_other v q.0 now miss ∙ h.0, same_next held now rest v (omega arith) h.1)

-- the pairs of the uses are those of the cube
pairs_held : (e : Cube) (held : Pairs) → map (λ u. (u.0, u.1)) (uses_held e held) ≡ e
pairs_held [] held = refl
pairs_held (p ∷ ps) held = ap (λ (l : Cube). p ∷ l) (pairs_held ps held)

-- their entries are the held cursors
entries_held : (e : Cube) (held : Pairs) → map (λ u. u.2) (uses_held e held) ≡ map (λ p. look p.0 held) e
entries_held [] held = refl
entries_held (p ∷ ps) held = ap (λ (l : List ℕ). look p.0 held ∷ l) (entries_held ps held)

-- there are as many uses as pairs
length_held : (e : Cube) (held : Pairs) → length (uses_held e held) ≡ length e
length_held [] held = refl
length_held (p ∷ ps) held = ap suc (length_held ps held)

-- their record is that of the pop
record_same : (u : ℕ) (e : Cube) (held : Pairs) → record_of u (uses_held e held) ≡ record_held u e held
record_same u e held = ap₂
    (λ (c : Cube) (ks : List ℕ). record { event = record { unit = u; cube = c }; entries = ks }) (pairs_held e held)
    (entries_held e held)

-- the uses of a pop may get its ticket
pub sealable : (a b : Option Kept) (mine : List (ℕ × LogRecord)) (e : Cube) (held : Pairs) → HasTickets a mine
    → Adds a b (uses_held e held)
    → IsCube e → length e < 2 ^ 31 → IsSealable b (length e)
sealable None None mine e held h g is short = h
sealable None (Some m) mine e held h g is short = absurd g
sealable (Some l) None mine e held h g is short = absurd g
sealable (Some l) (Some m) mine e held h g is short =
    let loose : m.loose ≡ uses_held e held = g.1
    ∙ ap (λ (x : List Use). x ++ uses_held e held) (nil_from_length l.loose h.1) in
    let size : length m.loose ≡ length e = ap length loose ∙ length_held e held in (
      subst IsCube (sym (ap (map (λ (u : Use). (u.0, u.1))) loose ∙ pairs_held e held)) is,
      sym size,
      omega (arith, size, short),
    )

-- then the log has the pass's tickets
pub sealed : (a b c : Option Kept) (mine : List (ℕ × LogRecord)) (e : Cube) (held : Pairs) (t u : ℕ)
    → HasTickets a mine → Adds a b (uses_held e held)
    → Seals b c t u → HasTickets c (mine ++ (t, record_held u e held) ∷ [])
sealed None None None mine e held t u h g s = h
sealed None None (Some n) mine e held t u h g s = absurd s
sealed None (Some m) c mine e held t u h g s = absurd g
sealed (Some l) None c mine e held t u h g s = absurd g
sealed (Some l) (Some m) None mine e held t u h g s = absurd s
sealed (Some l) (Some m) (Some n) mine e held t u h g s =
    let loose : m.loose ≡ uses_held e held = g.1
    ∙ ap (λ (x : List Use). x ++ uses_held e held) (nil_from_length l.loose h.1) in (
      s.0 ∙ ap₂ (λ (ts : List (ℕ × LogRecord)) (r : LogRecord). ts ++ (t, r) ∷ []) (g.0 ∙ h.0)
          (ap (record_of u) loose ∙ record_same u e held),
      ap length s.1,
    )
