-- Stacks with more entries: what could be popped can be popped still, since an entry doesn't depend on the height. So a
-- legal log stays legal.
use Rattle.std.proofs.Common.{ℕ, ◌≤◌, List, [], ◌∷◌, get_or, refl, ◌∙◌, arith}
use Rattle.pop_model.specs.Stacks.{Origin, StackTable, height_from, stacks_raised, Extends}
use Rattle.pop_model.specs.Stacks.Origin.{Given, Keyed}
use Rattle.pop_model.specs.Popping.{Cube, IsPoppable, cursor, pop}
use Rattle.pop_model.specs.Instances.{Instance}
use Rattle.pop_model.specs.Logs.{LogRecord, IsLegal}

-- an event stays poppable
pub poppable_extends : (s taller : StackTable) → Extends s taller → (c : List ℕ) (e : Cube) → IsPoppable s c e
    → IsPoppable taller c e
poppable_extends s taller extends c e is = record {
  occurs = λ k d below.
      let p = get_or e k d in
      let next = is.next k d below in
      extends.entries p.0 (cursor c p.0) (omega (arith, next)) ∙ is.occurs k d below;
  next = λ k d below.
      let p = get_or e k d in
      let next = is.next k d below in
      let height = extends.heights p.0 in
      omega (arith, next, height);
}

-- a legal log stays legal
pub legal_extends : (i : Instance) (taller : StackTable) → Extends i.stacks taller → (c : List ℕ) (log : List LogRecord)
    → IsLegal i c log → IsLegal (record { stacks = taller; family = i.family }) c log
legal_extends i taller extends c [] legal = tt
legal_extends i taller extends c (r ∷ log) legal = (
  record {
    event = legal.0.event;
    poppable = poppable_extends i.stacks taller extends c r.event.cube legal.0.poppable;
    entries = legal.0.entries;
  },
  legal_extends i taller extends (pop c r.event.cube) log legal.1,
)

-- keyed stacks of a height that is no less extend these
pub raised_extends : (origin : Origin) (weights : List (List ℕ)) (h : ℕ) → ((v : ℕ) → height_from origin v ≤ h)
    → Extends (record { origin = origin; weights = weights })
    (stacks_raised h (record { origin = origin; weights = weights }))
raised_extends (Given rows) weights h short =
    record { variables = refl; heights = λ v. omega arith; entries = λ v k below. refl }
raised_extends (Keyed key sample height) weights h short =
    record { variables = refl; heights = short; entries = λ v k below. refl }
