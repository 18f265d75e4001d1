use Rattle.std.proofs.Common.{inl, inr, ◌≡◌, ◌≢◌, ◌<◌, ℕ, [], get_or, refl, sym, ap, subst, ◌∙◌, arith, length, All, Contains, true}
use Rattle.std.specs.Prelude.{slice_index}
use Rattle.std.proofs.lemmas.Bool.{cases_eq}
use Rattle.std.proofs.lemmas.List.{get_or_read_under}
use Rattle.std.proofs.lemmas.List.Elements.{All-weaker, All-contains}
use Rattle.pop_instance.specs.Events.{cube_at}
use Rattle.pop_instance.proofs.ListedEvents.{index_units}
use Rattle.prs_rounds.specs.Growth.{mark_of, is_covered, Meets, AreJudged, AreListed}
use Rattle.prs_rounds.specs.declared.mark.Mark.TheVariants.{Free}
use Rattle.prs_rounds.specs.declared.growth.Growth.{Growth}
use Rattle.prs_rounds.proofs.GrowthLemmas.{judges_both, stays_made, row_meets}
use Rattle.prs_rounds.proofs.growth.Growth.judge_rows.Goals as goal

-- a variable that is read is listed, and so covered
record IsReadVariable (n count : ℕ) (g : Growth) (v : ℕ) : Type 0 where
  below : v < count
  covered : is_covered g v ≡ true

-- a variable that is read from the list is below the count, and covered
read_variable : (n count : ℕ) (g : Growth) (k v : ℕ) → AreListed n count g → k < length g.variables.items
    → v ≡ get_or g.variables.items k v → IsReadVariable n count g v
read_variable n count g k v listed within read =
    let has : Contains g.variables.items v = (k, within, sym read) in
    record {
      below = All-contains (λ w. w < count) g.variables.items v listed.known_variables has;
      covered =
          listed.are_covered v has;
    }

pub judge_row-requires-clause-known : goal.judge_row-requires-clause-known
judge_row-requires-clause-known c =
    let old = c.loop-k.invariant in
    let v : ℕ = c.index-v.result.now in
    let read = read_variable (length c.args.events.now) (length c.args.values.now) c.loop-k.self c.loop-k.k v
    old.listed (omega (arith, c.loop-k-test.true, c.len-k-end.ensures, ap (λ x. length x.items) old.judges.variables))
    c.index-v.ensures in
    subst (All (λ u. u < length c.args.events.now)) (sym c.at.ensures)
    (index_units c.args.events.now c.args.index.now c.requires.index v (omega (arith, read.below, c.requires.count)))

pub judge_row-requires-clause-meets : goal.judge_row-requires-clause-meets
judge_row-requires-clause-meets c =
    let old = c.loop-k.invariant in
    let v : ℕ = c.index-v.result.now in
    let read = read_variable (length c.args.events.now) (length c.args.values.now) c.loop-k.self c.loop-k.k v
    old.listed (omega (arith, c.loop-k-test.true, c.len-k-end.ensures, ap (λ x. length x.items) old.judges.variables))
    c.index-v.ensures in
    subst (All (λ u. Meets c.loop-k.self (cube_at c.args.events.now u))) (sym c.at.ensures)
    (row_meets c.args.events.now c.args.index.now c.loop-k.self c.requires.index v
    (omega (arith, read.below, c.requires.count)) read.covered)

pub loop-k-preserved : goal.loop-k-preserved
loop-k-preserved c =
    let rows = c.args.events.now in
    let values = c.args.values.now in
    let index = c.args.index.now in
    let old = c.loop-k.invariant in
    let judged = c.in_ok-judge_row.ensures in
    let v : ℕ = c.index-v.result.now in
    let variables = c.args.self.now.variables.items in
    let within : c.loop-k.k < length c.loop-k.self.variables.items =
    omega (arith, c.loop-k-test.true, c.len-k-end.ensures, ap (λ x. length x.items) old.judges.variables) in
    let read : v ≡ slice_index variables c.loop-k.k =
    get_or_read_under c.loop-k.self.variables.items c.loop-k.k
    (length c.loop-k.self.variables.items) v 0 c.index-v.ensures within refl
    ∙ ap (λ x. slice_index x.items c.loop-k.k) old.judges.variables in
    let now : AreJudged c.judge_row.new.self (get_or index (slice_index variables c.loop-k.k) []) =
    subst (λ w. AreJudged c.judge_row.new.self (get_or index w [])) read
    (subst (AreJudged c.judge_row.new.self) c.at.ensures judged.judged) in
    record {
      judges = judges_both rows values c.args.self.now c.loop-k.self c.judge_row.new.self old.judges judged.judges;
      judged = λ k low high. elim (cases_eq k c.loop-k.k) [
        | inl here ↦ subst (λ j. AreJudged c.judge_row.new.self (get_or index (slice_index variables j) []))
            (sym here) now
        | inr before ↦ All-weaker (λ u. mark_of c.loop-k.self u ≢ Free) (λ u. mark_of c.judge_row.new.self u ≢ Free)
            (stays_made rows values c.args.self.now c.loop-k.self c.judge_row.new.self old.judges judged.judges)
            (get_or index (slice_index variables k) []) (old.judged k low (omega (arith, high, before)))
      ];
      listed = judged.listed;
    }
