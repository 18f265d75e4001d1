-- Where no two listed events clash, rounds that finish are a legal log that does. And where a log finishes, the one-thread
-- run ends with nothing stuck; so the run by rounds isn't exhausted, and its cursors are the same.
use Rattle.std.proofs.Common.{ℕ, List, [], length, Option, None, Some, refl, subst}
use Rattle.pop_model.specs.Stacks.{StackTable}
use Rattle.pop_model.specs.Families.{Event, Family, IsFamily}
use Rattle.pop_model.specs.Families.Family.{Listed, Cycles}
use Rattle.pop_model.specs.Instances.{Instance, FamilyFits}
use Rattle.pop_model.specs.Extremal.{IsExtremal}
use Rattle.pop_model.specs.Runs.{IsFirstEnd, start_of}
use Rattle.confluence_core.proofs.Places.{listed}
use Rattle.prs_rounds.specs.Rounds.{IsRoundsEnd}
use Rattle.prs_rounds.specs.Laws.{EndsLikeFirst}
use Rattle.prs_rounds.specs.Units.{IsListed}
use Rattle.prs_rounds.proofs.LikeFirst.{Leads, rounds_lead, ends_like_first}
use Rattle.pop_samples.specs.Finishing.{FinishesAt}
use Rattle.pop_samples.specs.Frames.{stacks_of}
use Rattle.pop_samples.proofs.FrameRows.{fits_rows}
use Rattle.pop_samples.proofs.Finishing.{runs_like}
use Rattle.round_samples.specs.Laws.{HasRoundsEnd}
use Rattle.round_samples.specs.ExactLaws.{SampledAlike, SampledAlikeAt}
use Rattle.round_samples.proofs.FinishedRounds.{rounds_finish}
use Rattle.round_samples.proofs.RoundsEnd.{has_rounds_end}

-- rounds that finish are a log that does
finishes_by_rounds : (s : StackTable) (family : Family) → IsListed family → IsExtremal family → (c : List ℕ) (rounds : ℕ)
    → IsRoundsEnd (record { stacks = s; family = family }) c rounds [] None
    → FinishesAt (record { stacks = s; family = family }) c
finishes_by_rounds s (Listed rows) lists extremal c rounds is =
    let lead : Leads (listed s rows) (start_of (listed s rows)) c =
    rounds_lead s rows extremal rounds (start_of (listed s rows)) c is.run in
    (lead.log, record { legal = lead.legal; leads = lead.end; finished = is.end })
finishes_by_rounds s (Cycles heads) lists extremal c rounds is = absurd lists

-- rounds that end as a run with nothing stuck finish at its cursors
finishes_there : (i : Instance) (c d : List ℕ) (n : ℕ) (stuck : List Event) (short : Option ℕ)
    → IsRoundsEnd i d n stuck short → EndsLikeFirst d c short [] → (rounds : ℕ) × IsRoundsEnd i c rounds [] None
finishes_there i c d n stuck None is like =
    (n, subst (λ (e : List ℕ). IsRoundsEnd i e n [] None) (like.finished refl) (rounds_finish i n d is.run is.end))
finishes_there i c d n stuck (Some v) is like = absurd (like.exhausted.0 (λ none. cc) refl)

-- where a log finishes, so do rounds
rounds_there : (s : StackTable) (family : Family) → IsFamily family → FamilyFits s family → IsListed family
    → IsExtremal family → (c : List ℕ) → FinishesAt (record { stacks = s; family = family }) c
    → (rounds : ℕ) × IsRoundsEnd (record { stacks = s; family = family }) c rounds [] None
rounds_there s (Listed rows) events fits lists extremal c (log, by) =
    let i : Instance = listed s rows in
    let first : IsFirstEnd i c (length log) [] = (runs_like i extremal log c by).first in
    let run : HasRoundsEnd i = has_rounds_end s (Listed rows) events fits lists in
    finishes_there i c run.cursors run.rounds run.stuck run.short run.is_end
    (ends_like_first s rows extremal run.cursors run.rounds run.stuck run.short run.is_end c (length log) [] first)
rounds_there s (Cycles heads) arrows fits lists extremal c at = absurd lists

-- the law at given cursors
pub sampled_alike_at : SampledAlikeAt
sampled_alike_at f frame lists extremal w c rows = (
  λ (rounds, s). record {
    shape = s.shape;
    finishes = finishes_by_rounds (stacks_of f rows) f.family lists extremal c rounds s.end;
    entries = s.entries;
  },
  λ s.
      let run = rounds_there (stacks_of f rows) f.family frame.family (fits_rows f.weights rows f.family frame.fits)
      lists extremal c s.finishes in
      (run.0, record { shape = s.shape; end = run.1; entries = s.entries }),
)

-- so it is with a sample, wherever that is
pub sampled_alike : SampledAlike
sampled_alike f frame lists extremal w rows = (
  λ (c, s). (c, (sampled_alike_at f frame lists extremal w c rows).0 s),
  λ (c, s). (c, (sampled_alike_at f frame lists extremal w c rows).1 s),
)
