use Rattle.std.proofs.Common.{inl, inr, Some, ◌≡◌, ◌+◌, ◌++◌, ◌∷◌, [], ℕ, List, get_or, refl, sym, subst, take}
use Rattle.std.proofs.lemmas.Bool.{cases_lt, false≢true}
use Rattle.std.proofs.lemmas.List.{take_more}
use Rattle.pop_model.specs.Stacks.{height_of}
use Rattle.pop_model.specs.Popping.{cursor}
use Rattle.prs_rounds.specs.Moves.{IsLeastShort}
use Rattle.prs_rounds.proofs.MovesLemmas.{short_same, short_more}
use Rattle.prs_rounds.proofs.moves.least_short.Goals as goal
use Rattle.prs_rounds.proofs.moves.least_short.Goals.{then-is_last, else-is_last}

pub loop-v-preserved : goal.loop-v-preserved
loop-v-preserved c =
    let s = c.args.stacks.now in
    let at = c.args.cursors.now in
    let vs = c.args.variables.now in
    let k = c.loop-v.v-index in
    let v : ℕ = get_or vs k 0 in
    let next : take (k + 1) vs ≡ take k vs ++ v ∷ [] = take_more vs k 0 c.loop-v-test.true in
    elim c.if-is_last.branch [
      | then-is_last w ↦
          subst (IsLeastShort s at (take (k + 1) vs)) (sym w.least-is)
          (subst (λ (us : List ℕ). IsLeastShort s at us (Some w.lesser.result)) (sym next)
          (short_more s at (take k vs) c.loop-v.least v w.lesser.result c.loop-v.invariant
          (w.if-is_last.ensures.0 refl) w.lesser.ensures))
      | else-is_last w ↦
          subst (IsLeastShort s at (take (k + 1) vs)) (sym w.least-is)
          (subst (λ (us : List ℕ). IsLeastShort s at us c.loop-v.least) (sym next)
          (short_same s at (take k vs) c.loop-v.least v c.loop-v.invariant
          (elim (cases_lt (cursor at v + 1) (height_of s v)) [
            | inl less ↦ less
            | inr last ↦ absurd (false≢true (w.if-is_last.ensures.1 last))
          ])))
    ]
