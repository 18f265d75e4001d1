-- The ends of a batch under a key. Each is that of the one-thread run of its sample, which has one; so the ends are those
-- of samples exactly where these runs end with them.
use Rattle.std.proofs.Common.{◌≡◌, ℕ, suc, ◌<◌, List, [], ◌∷◌, length, map, get_or, replicate, refl, sym, ap, subst, ◌∙◌, arith, ext_get_or}
use Rattle.std.proofs.lemmas.List.{length-map, get_or-map}
use Rattle.std.proofs.lemmas.List.FromFn.{length-map-range_with_len}
use Rattle.std.proofs.lemmas.Option.{slice_get-get_or}
use Rattle.pop_model.specs.Popping.{values_at}
use Rattle.pop_model.specs.Families.{Event}
use Rattle.pop_model.specs.Extremal.{IsExtremal}
use Rattle.pop_model.specs.Runs.{IsFirstEnd}
use Rattle.pop_model.proofs.OneRun.{SameEnd, one_first_end}
use Rattle.confluence_core.specs.declared.end.End.{End}
use Rattle.pop_batch.specs.Batches.{AreEnds, IsSampleEnd}
use Rattle.pop_samples.specs.Frames.{Frame, IsFrame, Rows}
use Rattle.pop_samples.specs.Exchange.{Samples}
use Rattle.key_samples.specs.Numbers.{HaveWeights, Numbers}
use Rattle.key_samples.specs.Exact.{TablesOf}
use Rattle.key_samples.specs.Keys.{AreSamples, EndsWith, batch_numbers, numbers_of, under_key}
use Rattle.key_samples.specs.Laws.{KeyedEnds}
use Rattle.key_samples.proofs.KeyedBatches.{keyed_batches}

-- there are as many tables as samples
tables_count : (f : Frame) (Kind : List ℕ → Rows → Type 0) (ws : List (List ℕ)) (tables : List Numbers)
    → TablesOf f Kind ws tables → length ws ≡ length tables
tables_count f Kind [] [] all = refl
tables_count f Kind [] (t ∷ tables) all = absurd all
tables_count f Kind (w ∷ ws) [] all = absurd all
tables_count f Kind (w ∷ ws) (t ∷ tables) all = ap suc (tables_count f Kind ws tables all.1)

-- an end, for a place that has none
blank : End
blank = record { cursors = []; pops = 0; stuck = []; values = [] }

module _ (f : Frame) (frame : IsFrame f) (have : HaveWeights f.weights) (extremal : IsExtremal f.family)
    (key : List ℕ) (height count : ℕ) (high : f.heights ≡ replicate (length f.weights) height) (ends : List End)
    (are : AreEnds (under_key f key 0 height) count ends) where
  -- the end of a sample
  end_is : (j : ℕ) (d : End) → j < length ends → IsSampleEnd (under_key f key 0 height) j (get_or ends j d)
  end_is j d less = are.each j (get_or ends j d) (slice_get-get_or ends j d less)

  -- its values are those of its place
  values_there : (j : ℕ) → j < length ends → get_or (map (λ (e : End). e.values) ends) j [] ≡ (get_or ends j blank).values
  values_there j less = get_or-map (λ (e : End). e.values) ends j blank [] less

  -- ends of samples are those of runs with them
  runs_end : (ws : List (List ℕ)) → AreSamples ends ws → (j : ℕ) → j < length ends
      → EndsWith (under_key f key j height) (get_or ws j [])
  runs_end ws (none, same) j less =
      let e : End = get_or ends j blank in
      let is : IsSampleEnd (under_key f key 0 height) j e = end_is j blank less in
      record {
        cursors = e.cursors;
        pops = e.pops;
        end = subst (λ (s : List Event). IsFirstEnd (under_key f key j height) e.cursors e.pops s) (none j blank less)
            is.first;
        values = sym is.over.values.are ∙ sym (values_there j less) ∙ ap (λ (l : List (List ℕ)). get_or l j []) same;
      }

  -- so their tables are counted for them
  to_tables : (ws : List (List ℕ)) → AreSamples ends ws
      → TablesOf f (Samples f) ws (batch_numbers key height (length f.weights) count)
  to_tables ws s =
      let size : length ends ≡ length ws =
      sym (length-map ends (λ (e : End). e.values)) ∙ ap (λ (l : List (List ℕ)). length l) s.1 in
      subst (λ n. TablesOf f (Samples f) ws (batch_numbers key height (length f.weights) n)) (sym size ∙ are.count_is)
      ((keyed_batches f frame have extremal key height high ws).0
      (λ j less. runs_end ws s j (omega (arith, less, size))))

  -- a sample whose run ends with values has that end
  same_end : (j : ℕ) (d : End) (w : List ℕ) → j < length ends → EndsWith (under_key f key j height) w
      → ((get_or ends j d).stuck ≡ []) × ((get_or ends j d).values ≡ w)
  same_end j d w less x =
      let e : End = get_or ends j d in
      let is : IsSampleEnd (under_key f key 0 height) j e = end_is j d less in
      let one : SameEnd e.cursors x.cursors e.pops x.pops e.stuck [] =
      one_first_end (under_key f key j height) extremal e.cursors x.cursors e.pops x.pops e.stuck [] is.first x.end in
      (one.stuck, is.over.values.are ∙ ap (values_at (under_key f key j height).stacks) one.cursors ∙ x.values)

  -- and the other way round
  from_tables : (ws : List (List ℕ)) → TablesOf f (Samples f) ws (batch_numbers key height (length f.weights) count)
      → AreSamples ends ws
  from_tables ws all =
      let table : ℕ → Numbers = λ j. numbers_of key j height (length f.weights) in
      let whole : length ws ≡ count =
      tables_count f (Samples f) ws (batch_numbers key height (length f.weights) count) all
      ∙ length-map-range_with_len table 0 count in
      let size : length ends ≡ length ws = are.count_is ∙ sym whole in
      let each = (keyed_batches f frame have extremal key height high ws).1
      (subst (λ n. TablesOf f (Samples f) ws (batch_numbers key height (length f.weights) n)) (sym whole) all) in (
        λ j d less. (same_end j d (get_or ws j []) less (each j (omega (arith, less, size)))).0,
        ext_get_or [] (map (λ (e : End). e.values) ends) ws (length-map ends (λ (e : End). e.values) ∙ size) (λ j less.
            let inside : j < length ends =
            omega (arith, less, length-map ends (λ (e : End). e.values)) in
            values_there j inside
            ∙ (same_end j blank (get_or ws j []) inside (each j (omega (arith, inside, size)))).1),
      )

-- the law
pub keyed_ends : KeyedEnds
keyed_ends f frame have extremal key height count high ends are ws = (
  to_tables f frame have extremal key height count high ends are ws,
  from_tables f frame have extremal key height count high ends are ws,
)
