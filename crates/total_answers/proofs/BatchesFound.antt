-- So many samples of an extremal instance have ends: the one-thread run of each comes to one, and at its cursors each
-- variable has a value that it may have.
use Rattle.std.proofs.Common.{inl, inr, ◌≡◌, ℕ, zero, suc, ◌<◌, List, [], ◌∷◌, ◌++◌, length, sum, get_or, Some, refl, sym, ap, subst, ◌∙◌, arith}
use Rattle.std.proofs.lemmas.Bool.{cases_eq}
use Rattle.std.proofs.lemmas.List.{get_or-replicate, get_or_append_left, get_or_push, length_push}
use Rattle.std.proofs.lemmas.Option.{get_or_from_slice_get, slice_get-get_or, slice_get_within}
use Rattle.pop_model.specs.Stacks.{Origin, StackTable, variables_of, row_of, height_from, origin_for, stacks_for}
use Rattle.pop_model.specs.Stacks.Origin.{Given, Keyed}
use Rattle.pop_model.specs.Popping.{AreWithin, cursor, values_at}
use Rattle.pop_model.specs.Families.{Family}
use Rattle.pop_model.specs.Families.Family.{Listed, Cycles}
use Rattle.pop_model.specs.Instances.{Instance, IsInstance, FamilyFits, instance_for}
use Rattle.pop_model.specs.Extremal.{IsExtremal}
use Rattle.pop_model.specs.Logs.{LogRecord, IsLegal, replay}
use Rattle.pop_model.specs.Runs.{start_of}
use Rattle.pop_model.proofs.FirstRun.{first_run}
use Rattle.pop_model.proofs.OneRun.{first_run_legal}
use Rattle.pop_model.proofs.Replays.{length-replay, length-start, replay_within}
use Rattle.pop_model.proofs.ValuesLemmas.{value-values_at}
use Rattle.pop_stacks.specs.Faults.{IsSound}
use Rattle.confluence_core.specs.declared.end.End.{End}
use Rattle.pop_batch.specs.Batches.{AreEnds, IsSampleEnd}
use Rattle.printed_samples.proofs.SoundValues.{sound_values}
use Rattle.total_answers.proofs.StuckFound.{runs_out, stuck_found}

-- another sample has as many entries of each variable
same_height : (j : ℕ) (o : Origin) (v : ℕ) → height_from (origin_for j o) v ≡ height_from o v
same_height j (Given rows) v = refl
same_height j (Keyed key sample height) v = refl

-- the same events fit its stacks
fits_sample : (j : ℕ) (s : StackTable) (family : Family) → FamilyFits s family → FamilyFits (stacks_for j s) family
fits_sample j s (Listed rows) fits = fits
fits_sample j s (Cycles heads) fits = fits

-- and they are as sound
sound_sample : (j : ℕ) (o : Origin) (weights : List (List ℕ)) → IsSound o weights → IsSound (origin_for j o) weights
sound_sample j (Given rows) weights sound = sound
sound_sample j (Keyed key sample height) weights sound = record { rows = tt; light = sound.light }

-- the weights of each variable add up to something
abbrev pub HaveSums : List (List ℕ) → Type 0
HaveSums weights = (v : ℕ) → v < length weights → 0 < sum (row_of weights v)

module _ (i : Instance) (is : IsInstance i) (extremal : IsExtremal i.family)
    (sound : IsSound i.stacks.origin i.stacks.weights) (sums : HaveSums i.stacks.weights) where
  -- a sample has an end
  sample_end : (j : ℕ) → (end : End) × IsSampleEnd i j end
  sample_end j =
      let k : Instance = instance_for j i in
      let start : List ℕ = start_of k in
      let run = runs_out k is.family (fits_sample j i.stacks i.family is.fits) start (length-start k) in
      let first = first_run k extremal start run.log run.legal run.end in
      let log : List LogRecord = first.first in
      let legal : IsLegal k start log = first_run_legal k start log first.run in
      let c : List ℕ = replay start log in
      let size : length c ≡ variables_of k.stacks = length-replay start log ∙ length-start k in
      let stuck = stuck_found k c in
      let low : AreWithin k.stacks start = λ v below.
      let none : cursor start v ≡ 0 = get_or-replicate (variables_of k.stacks) v 0 0 below in
      let some = is.table.entries v below in
      let same = same_height j i.stacks.origin v in
      omega (arith, none, some, same) in
      let end : End = record { cursors = c; pops = length log; stuck = stuck.0; values = values_at k.stacks c } in (
        end,
        record {
          first = record { run = (log, first.run, refl, refl); stuck_list = stuck.1 };
          over = record {
            count = sym size;
            within = replay_within k start log (sym (length-start k)) low legal;
            values = record {
              are = refl;
              within = λ v below.
                  let value = value-values_at k.stacks c v (omega (arith, below, size)) in
                  let sound' = sound_sample j i.stacks.origin i.stacks.weights sound in
                  let small = sound_values (origin_for j i.stacks.origin) i.stacks.weights sound' v (cursor c v) below
                  (sums v below) in
                  omega (arith, value, small);
            };
          };
        },
      )

  -- one sample more
  one_more : (n : ℕ) (ends : List End) → AreEnds i n ends → (end : End) → IsSampleEnd i n end
      → AreEnds i (suc n) (ends ++ end ∷ [])
  one_more n ends are end is_end =
      let size = length_push ends end in
      let count = are.count_is in
      record {
        count_is = omega (arith, size, count);
        each = λ j other at.
            let within = slice_get_within (ends ++ end ∷ []) j other at in
            let here : get_or (ends ++ end ∷ []) j other ≡ other =
            get_or_from_slice_get (ends ++ end ∷ []) j other other at in
            elim (cases_eq j n) [
              | inl last ↦
                  let same : end ≡ other = sym (get_or_push ends end other j (omega (arith, last, count))) ∙ here in
                  subst (λ k. IsSampleEnd i k other) (sym last) (subst (IsSampleEnd i n) same is_end)
              | inr before ↦
                  let inside : j < length ends = omega (arith, within, size, count, before) in
                  let old : get_or ends j other ≡ other =
                  sym (get_or_append_left ends (end ∷ []) other j inside) ∙ here in
                  are.each j other (slice_get-get_or ends j other inside ∙ ap (λ (e : End). Some e) old)
            ];
      }

  -- so have so many
  pub ends_found : (n : ℕ) → (ends : List End) × AreEnds i n ends
  ends_found zero = ([], record { count_is = refl; each = λ j end at. absurd (cc) })
  ends_found (suc n) =
      let old = ends_found n in
      let end = sample_end n in
      (old.0 ++ end.0 ∷ [], one_more n old.0 old.1 end.0 end.1)
