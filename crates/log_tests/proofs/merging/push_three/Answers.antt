use Rattle.std.proofs.Common.{◌≡◌, ◌++◌, ◌∷◌, [], ℕ, List, refl, sym, ap, subst, ◌∙◌, arith}
use Rattle.pop_model.specs.Logs.{LogRecord}
use Rattle.pop_model.specs.Tickets.{AreNumbered}
use Rattle.log_tests.proofs.merging.push_three.Goals as goal

-- tickets 2, 0 and 1
numbered : (p q r : LogRecord) → AreNumbered ((2, p) ∷ (0, q) ∷ (1, r) ∷ [])
numbered p q r = (
  q ∷ r ∷ p ∷ [],
  record {
    moves = (1, 2) ∷ (0, 1) ∷ [];
    below =
        (omega arith, omega arith, (omega arith, omega arith, tt));
    is = refl;
  },
)

pub returns : goal.returns
returns g c =
    let first = c.push_ticket.ensures in
    let second = c.push_ticket-2.ensures in
    let third = c.push_ticket-3.ensures in
    let built : c.push_ticket-3.new.tickets ≡ (2, first.0) ∷ (0, second.0) ∷ (1, third.0) ∷ [] =
    third.1 ∙ ap (λ (ts : List (ℕ × LogRecord)). ts ++ (1, third.0) ∷ [])
    (second.1 ∙ ap (λ (ts : List (ℕ × LogRecord)). ts ++ (0, second.0) ∷ [])
    (first.1 ∙ ap (λ (ts : List (ℕ × LogRecord)). ts ++ (2, first.0) ∷ []) c.requires)) in
    subst AreNumbered (sym built) (numbered first.0 second.0 third.0)
