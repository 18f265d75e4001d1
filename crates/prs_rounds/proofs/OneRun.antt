-- The run by rounds has one result. A round leaves one vector, since each cursor is told by whether its variable is
-- resampled; and where a run ends, there is no further round.
use Rattle.std.proofs.Common.{inl, inr, ◌≡◌, ℕ, zero, suc, List, length, Option, None, Some, MatchOption, refl, sym, ap, subst, ◌∙◌, arith, ext_get_or}
use Rattle.std.proofs.lemmas.Bool.{cases_eq}
use Rattle.pop_model.specs.Popping.{cursor}
use Rattle.pop_model.specs.Families.{Event}
use Rattle.pop_model.specs.Instances.{Instance}
use Rattle.pop_model.specs.Places.{IsLeast}
use Rattle.pop_model.specs.Runs.{IsFinished, IsStuckList, start_of}
use Rattle.pop_model.proofs.OneRun.{one_stuck_list}
use Rattle.pop_model.proofs.Leasts.{one_least}
use Rattle.prs_rounds.specs.Resampling.{IsResampledVariable}
use Rattle.prs_rounds.specs.Rounds.{IsRound, Rounds, HasNoNext, IsRoundsEnd}
use Rattle.prs_rounds.specs.Laws.{SameRoundsEnd}
use Rattle.prs_rounds.proofs.OnlyOccurring.{some_occurs}

-- what a run ends with
abbrev IsStop : Instance → List ℕ → Option ℕ → Type 0
IsStop i c short = MatchOption short (IsFinished i c) (IsLeast (HasNoNext i c))

module _ (i : Instance) (c a b : List ℕ) (to_a : IsRound i c a) (to_b : IsRound i c b) where
  -- each cursor is told by whether its variable is resampled
  same_cursor : (v : ℕ) → cursor a v ≡ cursor b v
  same_cursor v = elim (cases_eq (cursor a v) (cursor b v)) [
    | inl same ↦ same
    | inr other ↦
        let none : IsResampledVariable i c v → ⊥ = λ h. other (to_a.moved v h ∙ sym (to_b.moved v h)) in
        to_a.kept v none ∙ sym (to_b.kept v none)
  ]

  -- a round leaves one vector
  pub one_round : a ≡ b
  one_round = ext_get_or 0 a b (to_a.count ∙ sym to_b.count) (λ v h. same_cursor v)

-- rounds leave as many cursors as there were
pub length-rounds : (i : Instance) (n : ℕ) (c end : List ℕ) → Rounds i n c end → length end ≡ length c
length-rounds i zero c end run = ap length (sym run)
length-rounds i (suc n) c end run = length-rounds i n run.0 end run.2 ∙ run.1.count

-- there is no round where a run ends
pub no_round : (i : Instance) (c new : List ℕ) (short : Option ℕ) → IsStop i c short → IsRound i c new → ⊥
no_round i c new None finished round = round.some finished
no_round i c new (Some v) least round =
    let last = least.holds.last in
    let room = round.room v least.holds.resampled in
    omega (arith, last, room)

-- two runs that end have one length and one end
pub record SameRounds (n m : ℕ) (a b : List ℕ) : Type 0 where
  pub rounds : n ≡ m
  pub end : a ≡ b

-- two runs that stop have one length and one end
pub same_rounds : (i : Instance) (n m : ℕ) (c a b : List ℕ) (short other : Option ℕ) → Rounds i n c a → Rounds i m c b
    → IsStop i a short → IsStop i b other → SameRounds n m a b
same_rounds i zero zero c a b short other run run' stop stop' = record { rounds = refl; end = sym run ∙ run' }
same_rounds i zero (suc m) c a b short other run run' stop stop' =
    absurd (no_round i c run'.0 short (subst (λ d. IsStop i d short) (sym run) stop) run'.1)
same_rounds i (suc n) zero c a b short other run run' stop stop' =
    absurd (no_round i c run.0 other (subst (λ d. IsStop i d other) (sym run') stop') run.1)
same_rounds i (suc n) (suc m) c a b short other run run' stop stop' =
    let next : run.0 ≡ run'.0 = one_round i c run.0 run'.0 run.1 run'.1 in
    let rest = same_rounds i n m run'.0 a b short other (subst (λ d. Rounds i n d a) next run.2) run'.2 stop stop' in
    record { rounds = ap suc rest.rounds; end = rest.end }

-- where no event occurs, no variable is resampled
none_short : (i : Instance) (c : List ℕ) (v : ℕ) → IsFinished i c → HasNoNext i c v → ⊥
none_short i c v finished h =
    let e = h.resampled in
    let f = some_occurs i c e.1.0 e.0 e.1.1 in
    finished f.0 f.1.event f.1.occurs

-- two runs that stop at the same cursors stop for one reason
one_short : (i : Instance) (c : List ℕ) (a b : Option ℕ) → IsStop i c a → IsStop i c b → a ≡ b
one_short i c None None stop stop' = refl
one_short i c None (Some w) stop stop' = absurd (none_short i c w stop stop'.holds)
one_short i c (Some v) None stop stop' = absurd (none_short i c v stop' stop.holds)
one_short i c (Some v) (Some w) stop stop' = ap Some (one_least (HasNoNext i c) v w stop stop')

-- two results of runs by rounds are the same
pub one_rounds_end : (i : Instance) (c d : List ℕ) (n m : ℕ) (s t : List Event) (a b : Option ℕ)
    → IsRoundsEnd i c n s a → IsRoundsEnd i d m t b → SameRoundsEnd c d n m s t a b
one_rounds_end i c d n m s t a b is is' =
    let same = same_rounds i n m (start_of i) c d a b is.run is'.run is.end is'.end in
    record {
      cursors = same.end;
      rounds = same.rounds;
      stuck = one_stuck_list i d s t (subst (λ v. IsStuckList i v s) same.end is.stuck_list) is'.stuck_list;
      short = one_short i d a b (subst (λ v. IsStop i v a) same.end is.end) is'.end;
    }
