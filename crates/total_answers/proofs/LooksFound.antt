-- How a run stands at its cursors: an event is poppable, or none is, and then one occurs, or none does.
use Rattle.std.proofs.Common.{inl, inr, ℕ, List, [], ◌∷◌, refl}
use Rattle.pop_model.specs.Families.{Event, IsFamily}
use Rattle.pop_model.specs.Instances.{Instance}
use Rattle.pop_model.specs.Runs.{IsEnd, IsStuckList}
use Rattle.pop_model.proofs.Rising.{head_member, none_in}
use Rattle.run_cert.specs.declared.look_kind.Look.{Look}
use Rattle.run_cert.specs.declared.look_kind.Look.TheVariants.{Finished, Exhausted, Open}
use Rattle.run_cert.specs.Looks.{IsLook}
use Rattle.total_answers.proofs.StuckFound.{poppable_found, stuck_found}

-- at an end
at_end : (i : Instance) (c : List ℕ) → IsEnd i c → (stuck : List Event) → IsStuckList i c stuck
    → (look : Look) × IsLook i c look
at_end i c end [] list = (
  Finished,
  record {
    open_is = (λ same. absurd (cc), λ (e, is, pop). absurd (end e is pop));
    finished_is = (λ same e is occurs. none_in e ((list.exact e).1 (is, occurs)), λ finished. refl);
  },
)
at_end i c end (e ∷ stuck) list =
    let first = (list.exact e).0 (head_member e stuck) in (
      Exhausted,
      record {
        open_is = (λ same. absurd (cc), λ (f, is, pop). absurd (end f is pop));
        finished_is = (λ same. absurd (cc), λ finished. absurd (finished e first.0 first.1));
      },
    )

-- at any cursors
pub look_found : (i : Instance) → IsFamily i.family → (c : List ℕ) → (look : Look) × IsLook i c look
look_found i are c = elim (poppable_found i are c) [
  | inl (e, is, pop) ↦ (
    Open,
    record {
      open_is = (λ same. (e, is, pop), λ some. refl);
      finished_is = (λ same. absurd (cc), λ finished. absurd (finished e is pop.occurs));
    },
  )
  | inr end ↦ let stuck = stuck_found i c in at_end i c end stuck.0 stuck.1
]
