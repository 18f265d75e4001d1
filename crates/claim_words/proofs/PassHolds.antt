-- A variable that a pass holds, and the pass after it releases the variable.
use Rattle.std.proofs.Common.{arith, ℕ, ap, sym, ◌∙◌, ◌≡◌, ◌<◌, List, Option}
use Rattle.pop_model.specs.Popping.{variables}
use Rattle.claim_words.specs.declared.board.Board.{Board}
use Rattle.claim_words.specs.declared.opening.Opening.{Opening}
use Rattle.claim_words.specs.declared.pass.Pass.{Pass}
use Rattle.claim_words.specs.Maps.{Pairs, times_in, without, taken_out, many_from}
use Rattle.claim_words.specs.Openings.{count_in}
use Rattle.claim_words.specs.Passes.{IsOf, Holds, view, count_of}
use Rattle.claim_words.proofs.HeldLemmas.{times-variables, variables-without, many-taken_out, held_near}

-- it stands once in the pass's list
pub held_once : (p : Pass) (v : ℕ) → Holds p v → times_in v p.held.items ≡ 1
held_once p v holds = ap (times_in v) p.tied ∙ times-variables v (view p).held ∙ holds

-- it is one of the board's
pub held_known : (b : Board) (p : Pass) (v : ℕ) → IsOf b p → Holds p v → v < count_of b
held_known b p v is holds =
    let below = held_near (count_in (view p).opening) v p.held.items p.near (held_once p v holds) in
    let same : count_in (view p).opening ≡ count_of b = ap count_in is.0.1 in
    omega (arith, below, same)

-- without it the list is that of what is left
pub tied_still : (p : Pass) (v : ℕ) (held : Pairs) (items : List ℕ) → items ≡ taken_out v p.held.items
    → held ≡ without v (view p).held → items ≡ variables held
tied_still p v held items out left =
    out ∙ ap (taken_out v) p.tied ∙ sym (ap variables left ∙ variables-without v (view p).held)

-- each of which is one of the board's
pub near_still : (p : Pass) (v : ℕ) (opening : Option Opening) (items : List ℕ) → items ≡ taken_out v p.held.items
    → opening ≡ (view p).opening → many_from (count_in opening) items ≡ 0
near_still p v opening items out same =
    ap (λ (o : Option Opening). many_from (count_in o) items) same ∙ ap (many_from (count_in (view p).opening)) out
    ∙ many-taken_out (count_in (view p).opening) v p.held.items p.near
