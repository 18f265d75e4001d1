-- Runs by rounds whose end is wanted are a kind of rows for which samples may be exchanged.
use Rattle.std.proofs.Common.{inl, inr, ◌≡◌, ◌⊎◌, ℕ, Bool, List, [], None, refl, sym, ap, ap₂, subst, ◌∙◌}
use Rattle.std.proofs.lemmas.Bool.{cases_Bool}
use Rattle.prs_rounds.specs.Units.{IsListed}
use Rattle.prs_rounds.specs.Laws.{SameRoundsEnd}
use Rattle.prs_rounds.proofs.OneRun.{one_rounds_end}
use Rattle.pop_samples.specs.Frames.{Frame, IsFrame, Rows, over}
use Rattle.pop_samples.specs.Exchange.{entries_under, exchange}
use Rattle.pop_samples.specs.Lists.{AreAll}
use Rattle.pop_samples.proofs.Conses.{Kept, kept}
use Rattle.pop_samples.proofs.FrameRows.{SuitsEnd}
use Rattle.round_samples.specs.Sampled.{Sampled}
use Rattle.round_samples.proofs.ExchangedRounds.{exchanged_rounds, rounds_suit}
use Rattle.round_samples.proofs.Listing.{listed_rounds}
use Rattle.key_samples.specs.Numbers.{rows_from}
use Rattle.key_samples.proofs.Exact.{exact_kind}
use Rattle.key_samples.proofs.RowKinds.{IsKind}
use Rattle.drawn_samples.specs.Where.{SampledWhere}
use Rattle.drawn_samples.specs.WhereLaws.{WantedRounds}
use Rattle.drawn_samples.proofs.Drawing.{are_drawn}
use Rattle.drawn_samples.proofs.Finished.{sample_there}
use Rattle.drawn_samples.proofs.WantedRuns.{not_both}

module _ (f : Frame) (wanted : List ℕ → ℕ → Bool) where
  -- such rows, at these cursors
  abbrev pub RoundsAt : List ℕ → List ℕ → Rows → Type 0
  RoundsAt w c rows = (s : SampledWhere f wanted w rows) × (s.cursors ≡ c)

  -- of two such ends
  one_end : (w x : List ℕ) (rows : Rows) (a : SampledWhere f wanted w rows) (b : SampledWhere f wanted x rows)
      → a.cursors ≡ b.cursors
  one_end w x rows a b =
      (one_rounds_end (over f rows) a.cursors b.cursors a.rounds b.rounds [] [] None None a.by.end b.by.end).cursors

  -- rows that rounds finish are such or aren't
  where_or_not : (w : List ℕ) (rows : Rows) → Sampled f w rows
      → SampledWhere f wanted w rows ⊎ (SampledWhere f wanted w rows → ⊥)
  where_or_not w rows (c, (rounds, by)) = elim (cases_Bool (wanted c rounds)) [
    | inl is ↦ inl (record { cursors = c; rounds = rounds; by = by; wanted_end = is })
    | inr not ↦ inr (λ s.
        let same : SameRoundsEnd s.cursors c s.rounds rounds [] [] None None =
        one_rounds_end (over f rows) s.cursors c s.rounds rounds [] [] None None s.by.end by.end in
        not_both (sym (ap₂ wanted same.cursors same.rounds) ∙ s.wanted_end) not)
  ]

  -- so they are a finite list
  where_listed : IsFrame f → IsListed f.family → (w : List ℕ) → (all : List Rows) × AreAll (SampledWhere f wanted w) all
  where_listed frame listed w =
      let every = listed_rounds f frame listed w in
      let some : Kept (SampledWhere f wanted w) every.0 =
      kept (SampledWhere f wanted w) every.0 every.1.differ
      (λ rows has. where_or_not w rows ((every.1.exact rows).0 has)) in (
        some.list,
        record {
          differ = some.differ;
          exact = λ rows. (
            λ has. (some.sound rows has).1,
            λ s. some.complete rows ((every.1.exact rows).1 (s.cursors, (s.rounds, s.by))) s,
          );
        },
      )

  -- the cursors suit the rows
  where_suits : IsFrame f → (w : List ℕ) (rows : Rows) (s : SampledWhere f wanted w rows) → SuitsEnd f rows s.cursors
  where_suits frame w rows s = rounds_suit f frame rows s.by.shape s.cursors s.rounds s.by.end

  -- so such rows are a kind
  where_kind : IsFrame f → IsListed f.family → IsKind f (SampledWhere f wanted) RoundsAt
  where_kind frame listed = record {
    places = λ w rows. (λ s. (s.cursors, (s, refl)), λ s. s.1.0);
    shape = λ w c rows s. s.0.by.shape;
    suits = λ w c rows s. subst (SuitsEnd f rows) s.1 (where_suits frame w rows s.0);
    entries = λ w c rows s. sym (ap (entries_under rows) s.1) ∙ s.0.by.entries;
    moves = λ w x c rows s sample. subst (λ (d : List ℕ). RoundsAt x d (exchange rows d x)) s.1 (
      record {
        cursors = s.0.cursors;
        rounds = s.0.rounds;
        by = (exchanged_rounds f frame listed w x s.0.cursors s.0.rounds rows s.0.by sample).sampled;
        wanted_end = s.0.wanted_end;
      },
      refl,
    );
    one = λ w c d rows a b. sym a.1 ∙ one_end w w rows a.0 b.0 ∙ b.1;
    listed = λ w sample. where_listed frame listed w;
  }

-- the law of rounds whose end is wanted
pub wanted_rounds : WantedRounds
wanted_rounds f frame have listed wanted =
    let exact = exact_kind f frame have (SampledWhere f wanted) (RoundsAt f wanted) (where_kind f wanted frame listed) in
    record {
      exact = exact;
      drawn = are_drawn f frame (SampledWhere f wanted) exact
          (λ w t g. let rows : Rows = rows_from f.weights t in
          sample_there f frame w g.rows.cursors rows g.rows.by.shape (where_suits f wanted frame w rows g.rows)
          g.rows.by.entries g.rows.by.end.end)
          (λ w x t g h. let rows : Rows = rows_from f.weights t in
          sym g.rows.by.entries ∙ ap (entries_under rows) (one_end f wanted w x rows g.rows h.rows) ∙ h.rows.by.entries)
          have;
    }
