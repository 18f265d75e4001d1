use Rattle.pop_model.proofs.TallerStacks.{legal_extends, raised_extends}
use Rattle.confluence_core.proofs.laws.taller_legal.Goals as goal

pub returns-clause-legal : goal.returns-clause-legal
returns-clause-legal c i taller extends at log legal = legal_extends i taller extends at log legal

pub returns-clause-raised : goal.returns-clause-raised
returns-clause-raised c s height short = raised_extends s.origin s.weights height short
