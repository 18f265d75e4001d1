use Rattle.std.proofs.Common.{◌<◌, ◌∙◌, ap, subst, ℕ}
use Rattle.pop_model.specs.Popping.{variables}
use Rattle.claim_words.specs.Maps.{Each}
use Rattle.claim_words.specs.Passes.{view}
use Rattle.worker_tests.proofs.claims.one_pop.let_go.Goals as goal

-- each mark that is owed is one of the two
pub mark_all-requires-clause-owed : goal.mark_all-requires-clause-owed
mark_all-requires-clause-owed c =
    subst (λ (n : ℕ). Each (λ u. u < n) (view c.args.pass.now).owed) c.requires.marks c.requires.owed

-- both variables are held, and no other
pub release_below-requires-clause-held : goal.release_below-requires-clause-held
release_below-requires-clause-held c = ap variables c.mark_all.ensures.held ∙ c.requires.held
