-- Tries of which the first that gives a sample is kept: their tables are those of a first try that gives it, with any
-- tables of the others, and those of a first try that gives none, with tables of the others of which it is kept. Both are
-- as the sample's share.
use Rattle.std.proofs.Common.{inl, inr, ◌≡◌, ◌⊎◌, ℕ, suc, ◌+◌, ◌*◌, ◌^◌, Bool, List, [], ◌∷◌, sum, All, refl, sym, ap, ap₂, subst, ◌∙◌, arith}
use Rattle.std.specs.Prelude.{⊤}
use Rattle.std.specs.List.{sum_by}
use Rattle.std.proofs.Math.Nat.{add-mul, mul_assoc, mul_right_comm, zero-mul}
use Rattle.pop_model.proofs.Rising.{none_in}
use Rattle.pop_model.specs.Logs.{LogRecord}
use Rattle.pop_samples.specs.Frames.{Frame, IsFrame, IsSampleOf, Rows}
use Rattle.pop_samples.specs.Lists.{AreAll}
use Rattle.pop_samples.specs.Weights.{sample_weight}
use Rattle.pop_samples.proofs.Conses.{Fronted, none_differ, same_kind}
use Rattle.key_samples.specs.Counts.{Count}
use Rattle.key_samples.specs.Numbers.{AreNumbers, Numbers}
use Rattle.key_samples.specs.Shares.{all_shares}
use Rattle.key_samples.proofs.Counting.{count_either, count_fronted, count_one, one_count, same_count}
use Rattle.key_samples.proofs.Totals.{all_numbers}
use Rattle.drawn_samples.specs.Drawn.{DrawsEach}
use Rattle.drawn_samples.specs.Retried.{AreKept, AreTables, DrawsKept, Gives, GivesNone, GivesSome, Keeps, KeepsSome, RetriedRounds, RetriedRuns, Try, frame_of}
use Rattle.drawn_samples.specs.Where.{SampledWhere, SamplesWhere}
use Rattle.drawn_samples.specs.WhereLaws.{AreExactlyDrawn}
use Rattle.drawn_samples.proofs.Mixed.{none_counted}
use Rattle.drawn_samples.proofs.WantedRounds.{wanted_rounds}
use Rattle.drawn_samples.proofs.WantedRuns.{wanted_runs}

-- what is nowhere is counted by 0
count_nothing : {X : Type 0} → (P : X → Type 0) → ((x : X) → P x → ⊥) → Count P 0
count_nothing P none = record {
  list = [];
  all = record { differ = none_differ; exact = λ x. (λ has. absurd (none_in x has), λ is. absurd (none x is)) };
  size = refl;
}

-- fronts and rests, of the one kind or the other, in the same proportion
in_proportion : (k a t e n all z s : ℕ) → k * z ≡ a * s → n * z ≡ all * s
    → (k * t + e * n) * z ≡ (a * t + e * all) * s
in_proportion k a t e n all z s first rest =
    add-mul (k * t) (e * n) z
    ∙ ap₂ (λ (x y : ℕ). x + y)
    (mul_right_comm k t z ∙ ap (λ (x : ℕ). x * t) first ∙ mul_right_comm a s t)
    (mul_assoc e n z ∙ ap (λ (x : ℕ). e * x) rest ∙ sym (mul_assoc e all s))
    ∙ sym (add-mul (a * t) (e * all) s)

-- the tables of tries are counted
tables_counted : {Wanted : Type 0} → (tries : List (Try Wanted)) → (n : ℕ) × Count (AreTables tries) n
tables_counted {Wanted} [] = (1, count_one [] (AreTables {Wanted = Wanted} []) tt empty)
  where
    empty : (z : List Numbers) → AreTables {Wanted = Wanted} [] z → [] ≡ z
    empty [] g = refl
    empty (t ∷ tables) g = absurd g
tables_counted (t ∷ tries) =
    let first : Count (AreNumbers t.heights) ((2 ^ 64) ^ sum t.heights) = all_numbers t.heights in
    let rest = tables_counted tries in (
      (2 ^ 64) ^ sum t.heights * rest.0,
      same_count (Fronted (AreNumbers t.heights) (AreTables tries)) (AreTables (t ∷ tries))
          ((2 ^ 64) ^ sum t.heights * rest.0)
          (count_fronted (AreNumbers t.heights) (AreTables tries) ((2 ^ 64) ^ sum t.heights) rest.0 first rest.1)
          (λ z made. subst (AreTables (t ∷ tries)) (sym made.is) (made.has_front, made.has_rest))
          fro,
    )
  where
    fro : (z : List Numbers) → AreTables (t ∷ tries) z → Fronted (AreNumbers t.heights) (AreTables tries) z
    fro [] g = absurd g
    fro (table ∷ tables) g = record { front = table; rest = tables; is = refl; has_front = g.0; has_rest = g.1 }

module _ {Wanted : Type 0} (f : Frame) (Kind : Frame → Wanted → List ℕ → Rows → Type 0) where
  -- what is known of a try
  abbrev IsTried : Try Wanted → Type 0
  IsTried t = AreExactlyDrawn (frame_of f t) (Kind (frame_of f t) t.wanted)

  -- and of all
  abbrev pub AreTried : List (Try Wanted) → Type 0
  AreTried [] = ⊤
  AreTried (t ∷ tries) = IsTried t × AreTried tries

  -- samples don't hang on heights
  to_try : (t : Try Wanted) (w : List ℕ) → IsSampleOf f w → IsSampleOf (frame_of f t) w
  to_try t w is = record { count = is.count; values = is.values; sample = is.sample }

  of_try : (t : Try Wanted) (w : List ℕ) → IsSampleOf (frame_of f t) w → IsSampleOf f w
  of_try t w is = record { count = is.count; values = is.values; sample = is.sample }

  -- what is kept is a sample
  only_kept : (tries : List (Try Wanted)) → AreTried tries → (w : List ℕ) (tables : List Numbers)
      → Keeps f Kind tries w tables → IsSampleOf f w
  only_kept [] tried w tables keeps = absurd keeps
  only_kept (t ∷ tries) tried w [] keeps = absurd keeps
  only_kept (t ∷ tries) tried w (table ∷ tables) keeps = elim keeps [
    | inl a ↦ of_try t w (tried.0.drawn.only w table a.0)
    | inr b ↦ only_kept tries tried.1 w tables b.1
  ]

  -- and just one
  one_kept : (tries : List (Try Wanted)) → AreTried tries → (w x : List ℕ) (tables : List Numbers)
      → Keeps f Kind tries w tables → Keeps f Kind tries x tables → w ≡ x
  one_kept [] tried w x tables keeps other = absurd keeps
  one_kept (t ∷ tries) tried w x [] keeps other = absurd keeps
  one_kept (t ∷ tries) tried w x (table ∷ tables) keeps other = elim keeps [
    | inl a ↦ elim other [
      | inl b ↦ tried.0.drawn.one w x table a.0 b.0
      | inr b ↦ absurd (b.0.1 (record { values = w; table = a.0 }))
    ]
    | inr a ↦ elim other [
      | inl b ↦ absurd (a.0.1 (record { values = x; table = b.0 }))
      | inr b ↦ one_kept tries tried.1 w x tables a.1 b.1
    ]
  ]

  -- A try that gives what it may, and others with any tables; or one that gives none, and others of which something holds.
  abbrev Either : Try Wanted → List (Try Wanted) → (Numbers → Type 0) → (List Numbers → Type 0) → List Numbers → Type 0
  Either t tries Given Kept z = Fronted Given (AreTables tries) z ⊎ Fronted (GivesNone f Kind t) Kept z

  -- their count
  either_counted : (t : Try Wanted) (tries : List (Try Wanted)) (tried : IsTried t) → (Given : Numbers → Type 0)
      → (Kept : List Numbers → Type 0) → ((table : Numbers) → Given table → GivesSome f Kind t table) → (k n : ℕ)
      → Count Given k → Count Kept n
      → Count (Either t tries Given Kept)
      (k * (tables_counted tries).0 + (none_counted (frame_of f t) (Kind (frame_of f t) t.wanted) tried.exact tried.drawn).0 * n)
  either_counted t tries tried Given Kept gives k n given kept =
      let all = tables_counted tries in
      let none = none_counted (frame_of f t) (Kind (frame_of f t) t.wanted) tried.exact tried.drawn in
      count_either (Fronted Given (AreTables tries)) (Fronted (GivesNone f Kind t) Kept) (k * all.0) (none.0 * n)
      (count_fronted Given (AreTables tries) k all.0 given all.1)
      (count_fronted (GivesNone f Kind t) Kept none.0 n none.1 kept)
      (λ z a b.
      let same : a.front ∷ a.rest ≡ b.front ∷ b.rest = sym a.is ∙ b.is in
      let fronts : a.front ≡ b.front = cc in
      b.has_front.1 (gives b.front (subst Given fronts a.has_front)))

  -- those of a sample
  mine_to : (t : Try Wanted) (tries : List (Try Wanted)) (w : List ℕ) (z : List Numbers)
      → Either t tries (Gives f Kind t w) (Keeps f Kind tries w) z → Keeps f Kind (t ∷ tries) w z
  mine_to t tries w z either = elim either [
    | inl a ↦ subst (Keeps f Kind (t ∷ tries) w) (sym a.is) (inl (a.has_front, a.has_rest))
    | inr b ↦ subst (Keeps f Kind (t ∷ tries) w) (sym b.is) (inr (b.has_front, b.has_rest))
  ]

  mine_fro : (t : Try Wanted) (tries : List (Try Wanted)) (w : List ℕ) (z : List Numbers)
      → Keeps f Kind (t ∷ tries) w z → Either t tries (Gives f Kind t w) (Keeps f Kind tries w) z
  mine_fro t tries w [] keeps = absurd keeps
  mine_fro t tries w (table ∷ tables) keeps = elim keeps [
    | inl a ↦ inl (record { front = table; rest = tables; is = refl; has_front = a.0; has_rest = a.1 })
    | inr b ↦ inr (record { front = table; rest = tables; is = refl; has_front = b.0; has_rest = b.1 })
  ]

  -- those of any
  some_to : (t : Try Wanted) (tries : List (Try Wanted)) (z : List Numbers)
      → Either t tries (GivesSome f Kind t) (KeepsSome f Kind tries) z → KeepsSome f Kind (t ∷ tries) z
  some_to t tries z either = elim either [
    | inl a ↦ (
      a.has_front.values,
      subst (Keeps f Kind (t ∷ tries) a.has_front.values) (sym a.is) (inl (a.has_front.table, a.has_rest)),
    )
    | inr b ↦ (
      b.has_rest.0,
      subst (Keeps f Kind (t ∷ tries) b.has_rest.0) (sym b.is) (inr (b.has_front, b.has_rest.1)),
    )
  ]

  some_fro : (t : Try Wanted) (tries : List (Try Wanted)) (z : List Numbers) → KeepsSome f Kind (t ∷ tries) z
      → Either t tries (GivesSome f Kind t) (KeepsSome f Kind tries) z
  some_fro t tries [] keeps = absurd keeps.1
  some_fro t tries (table ∷ tables) (w, keeps) = elim keeps [
    | inl a ↦ inl (record {
      front = table;
      rest = tables;
      is = refl;
      has_front = record { values = w; table = a.0 };
      has_rest = a.1;
    })
    | inr b ↦ inr (record { front = table; rest = tables; is = refl; has_front = b.0; has_rest = (w, b.1) })
  ]

  -- what is kept is counted
  record KeptCounts (tries : List (Try Wanted)) (w : List ℕ) : Type 0 where
    part : ℕ
    whole : ℕ
    part_count : Count (Keeps f Kind tries w) part
    whole_count : Count (KeepsSome f Kind tries) whole
    ratio : (weight : List ℕ → ℕ) (samples : List (List ℕ)) → AreAll (IsSampleOf f) samples
        → ((t : Try Wanted) → IsTried t → DrawsEach (frame_of f t) (Kind (frame_of f t) t.wanted) weight)
        → part * sum_by weight samples ≡ whole * weight w

  kept_counts : (tries : List (Try Wanted)) → AreTried tries → (w : List ℕ) → IsSampleOf f w → KeptCounts tries w
  kept_counts [] tried w is = record {
    part = 0;
    whole = 0;
    part_count = count_nothing (Keeps f Kind [] w) (λ z keeps. keeps);
    whole_count = count_nothing (KeepsSome f Kind []) (λ z keeps. keeps.1);
    ratio = λ weight samples every draws. zero-mul (sum_by weight samples) ∙ sym (zero-mul (weight w));
  }
  kept_counts (t ∷ tries) tried w is =
      let rest : KeptCounts tries w = kept_counts tries tried.1 w is in
      let mine = tried.0.exact.counted w (to_try t w is) in
      let some = tried.0.drawn.ended in
      let all : ℕ = (tables_counted tries).0 in
      let none : ℕ = (none_counted (frame_of f t) (Kind (frame_of f t) t.wanted) tried.0.exact tried.0.drawn).0 in
      record {
        part = mine.0 * all + none * rest.part;
        whole = some.0 * all + none * rest.whole;
        part_count = same_count (Either t tries (Gives f Kind t w) (Keeps f Kind tries w)) (Keeps f Kind (t ∷ tries) w)
            (mine.0 * all + none * rest.part)
            (either_counted t tries tried.0 (Gives f Kind t w) (Keeps f Kind tries w)
            (λ table g. record { values = w; table = g }) mine.0 rest.part mine.1 rest.part_count)
            (mine_to t tries w) (mine_fro t tries w);
        whole_count = same_count (Either t tries (GivesSome f Kind t) (KeepsSome f Kind tries))
            (KeepsSome f Kind (t ∷ tries)) (some.0 * all + none * rest.whole)
            (either_counted t tries tried.0 (GivesSome f Kind t) (KeepsSome f Kind tries) (λ table g. g) some.0 rest.whole
            some.1 rest.whole_count)
            (some_to t tries) (some_fro t tries);
        ratio = λ weight samples every draws.
            in_proportion mine.0 some.0 all none rest.part rest.whole (sum_by weight samples) (weight w)
            (draws t tried.0 w samples (to_try t w is)
            (same_kind (IsSampleOf f) (IsSampleOf (frame_of f t)) samples every (to_try t) (of_try t))
            mine.0 some.0 mine.1 some.1)
            (rest.ratio weight samples every draws);
      }

  -- so it draws by a weight, where each try does
  draws_kept : (tries : List (Try Wanted)) → AreTried tries → (weight : List ℕ → ℕ)
      → ((t : Try Wanted) → IsTried t → DrawsEach (frame_of f t) (Kind (frame_of f t) t.wanted) weight)
      → DrawsKept f Kind tries weight
  draws_kept tries tried weight draws w samples is every n all part whole =
      let counts : KeptCounts tries w = kept_counts tries tried w is in
      ap (λ (k : ℕ). k * sum_by weight samples) (one_count (Keeps f Kind tries w) n counts.part part counts.part_count)
      ∙ counts.ratio weight samples every draws
      ∙ sym (ap (λ (k : ℕ). k * weight w) (one_count (KeepsSome f Kind tries) all counts.whole whole counts.whole_count))

  -- all that is kept is counted, whether or not there is a sample
  ended_kept : (tries : List (Try Wanted)) → AreTried tries → (all : ℕ) × Count (KeepsSome f Kind tries) all
  ended_kept [] tried = (0, count_nothing (KeepsSome f Kind []) (λ z keeps. keeps.1))
  ended_kept (t ∷ tries) tried =
      let rest = ended_kept tries tried.1 in
      let some = tried.0.drawn.ended in
      let n : ℕ = some.0 * (tables_counted tries).0
      + (none_counted (frame_of f t) (Kind (frame_of f t) t.wanted) tried.0.exact tried.0.drawn).0 * rest.0 in (
        n,
        same_count (Either t tries (GivesSome f Kind t) (KeepsSome f Kind tries)) (KeepsSome f Kind (t ∷ tries)) n
            (either_counted t tries tried.0 (GivesSome f Kind t) (KeepsSome f Kind tries) (λ table g. g) some.0 rest.0
            some.1 rest.1)
            (some_to t tries) (some_fro t tries),
      )

  -- the law
  pub are_kept : (tries : List (Try Wanted)) → AreTried tries → AreKept f Kind tries
  are_kept tries tried = record {
    only = only_kept tries tried;
    one = one_kept tries tried;
    counted = λ w is. let counts = kept_counts tries tried w is in (counts.part, counts.part_count);
    ended = ended_kept tries tried;
    by_shares = draws_kept tries tried (sample_weight (all_shares f.weights)) (λ t each. each.drawn.each);
    by_weights = λ divide. draws_kept tries tried (sample_weight f.weights) (λ t each. each.drawn.each_by_weights divide);
  }

-- the law of the one-thread run
pub retried_runs : RetriedRuns
retried_runs f have extremal tries frames = are_kept f SamplesWhere tries (each tries frames)
  where
    each : (tries : List (Try (List LogRecord → Bool))) → All (λ t. IsFrame (frame_of f t)) tries
        → AreTried f SamplesWhere tries
    each [] frames = tt
    each (t ∷ tries) frames = (
      wanted_runs (frame_of f t) (frames 0 t (omega arith)) have extremal t.wanted,
      each tries (λ k d less. frames (suc k) d (omega (arith, less))),
    )

-- the law of rounds
pub retried_rounds : RetriedRounds
retried_rounds f have listed tries frames = are_kept f SampledWhere tries (each tries frames)
  where
    each : (tries : List (Try (List ℕ → ℕ → Bool))) → All (λ t. IsFrame (frame_of f t)) tries
        → AreTried f SampledWhere tries
    each [] frames = tt
    each (t ∷ tries) frames = (
      wanted_rounds (frame_of f t) (frames 0 t (omega arith)) have listed t.wanted,
      each tries (λ k d less. frames (suc k) d (omega (arith, less))),
    )
