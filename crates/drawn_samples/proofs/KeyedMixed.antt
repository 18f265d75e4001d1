-- The ends of a batch under a key, of which some may have a stuck event: each is that of the one-thread run of its sample,
-- so the sample's table ends with its values where nothing is stuck, and else with none.
use Rattle.std.proofs.Common.{◌≡◌, ℕ, suc, ◌+◌, ◌<◌, List, [], ◌∷◌, length, map, get_or, replicate, refl, sym, subst, arith}
use Rattle.std.specs.List.{range_with_len}
use Rattle.std.proofs.lemmas.Option.{slice_get-get_or}
use Rattle.pop_model.specs.Extremal.{IsExtremal}
use Rattle.pop_model.specs.Families.{Event}
use Rattle.pop_model.specs.Runs.{IsFirstEnd}
use Rattle.pop_model.proofs.OneRun.{one_first_end}
use Rattle.confluence_core.specs.declared.end.End.{End}
use Rattle.pop_batch.specs.Batches.{IsSampleEnd}
use Rattle.pop_samples.specs.Frames.{Frame, IsFrame}
use Rattle.pop_samples.specs.Exchange.{Samples}
use Rattle.key_samples.specs.Keys.{EndsWith, batch_numbers, numbers_of, under_key}
use Rattle.key_samples.specs.Numbers.{HaveWeights, Numbers}
use Rattle.key_samples.proofs.KeyedRuns as K
use Rattle.key_samples.proofs.KeyedRuns.{keyed_runs}
use Rattle.drawn_samples.specs.Mixed.{BatchEndsSo, EndsSo, KeyedMixed, sample_if, sample_of}

module _ (f : Frame) (frame : IsFrame f) (have : HaveWeights f.weights) (extremal : IsExtremal f.family) (key : List ℕ)
    (height : ℕ) (high : f.heights ≡ replicate (length f.weights) height) where
  -- the table of a sample
  abbrev table : ℕ → Numbers
  table j = numbers_of key j height (length f.weights)

  -- the run of a sample ends so
  of_stuck : (j : ℕ) (c : List ℕ) (pops : ℕ) (stuck : List Event) (values : List ℕ)
      → IsFirstEnd (under_key f key j height) c pops stuck
      → (stuck ≡ [] → EndsWith (under_key f key j height) values) → EndsSo f (Samples f) (sample_if stuck values) (table j)
  of_stuck j c pops [] values end with_values =
      (keyed_runs f frame have extremal key j height high values).0 (with_values refl)
  of_stuck j c pops (e ∷ stuck) values end with_values = (
    K.numbers f frame have key j height high,
    λ ends.
        let x : EndsWith (under_key f key j height) ends.values =
        (keyed_runs f frame have extremal key j height high ends.values).1 ends.table in
        let none : e ∷ stuck ≡ [] =
        (one_first_end (under_key f key j height) extremal c x.cursors pops x.pops (e ∷ stuck) [] end x.end).stuck in
        cc,
  )

  -- so does that of each of these ends
  of_end : (j : ℕ) (end : End) → IsSampleEnd (under_key f key 0 height) j end
      → EndsSo f (Samples f) (sample_of end) (table j)
  of_end j end is =
      of_stuck j end.cursors end.pops end.stuck end.values is.first (λ none. record {
        cursors = end.cursors;
        pops = end.pops;
        end = subst (λ (s : List Event). IsFirstEnd (under_key f key j height) end.cursors end.pops s) none is.first;
        values = sym is.over.values.are;
      })

  -- one after another
  of_ends : (ends : List End) (a : ℕ)
      → ((j : ℕ) (d : End) → j < length ends → EndsSo f (Samples f) (sample_of (get_or ends j d)) (table (a + j)))
      → BatchEndsSo f (Samples f) (map sample_of ends) (map table (range_with_len a (length ends)))
  of_ends [] a each = tt
  of_ends (end ∷ ends) a each =
      let here : a + 0 ≡ a = omega arith in (
        subst (λ (j : ℕ). EndsSo f (Samples f) (sample_of end) (table j)) here (each 0 end (omega arith)),
        of_ends ends (a + 1) (λ j d less.
            let next : a + suc j ≡ a + 1 + j = omega arith in
            subst (λ (k : ℕ). EndsSo f (Samples f) (sample_of (get_or ends j d)) (table k)) next
            (each (suc j) d (omega (arith, less)))),
      )

-- the law
pub keyed_mixed : KeyedMixed
keyed_mixed f frame have extremal key height count high ends are =
    subst (λ (n : ℕ). BatchEndsSo f (Samples f) (map sample_of ends) (batch_numbers key height (length f.weights) n))
    are.count_is
    (of_ends f frame have extremal key height high ends 0 (λ j d less.
    let zero_more : j ≡ 0 + j = omega arith in
    subst (λ (k : ℕ). EndsSo f (Samples f) (sample_of (get_or ends j d)) (numbers_of key k height (length f.weights)))
    zero_more
    (of_end f frame have extremal key height high j (get_or ends j d)
    (are.each j (get_or ends j d) (slice_get-get_or ends j d less)))))
