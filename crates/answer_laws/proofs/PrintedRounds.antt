-- The exact law on printed bytes, for `rounds`. Words that print an assignment are over rows that rounds finish with it,
-- and the other way round; so they are counted as rounds are.
use Rattle.std.proofs.Common.{◌≡◌, ℕ, ◌<◌, List, [], ◌++◌, length, codes, refl, sym, ap, subst, ◌∙◌, append_assoc, All, None, Ok}
use Rattle.std.proofs.lemmas.List.{append_cancel_left}
use Rattle.pop_model.specs.Stacks.Origin.{Given as GivenRows}
use Rattle.pop_model.specs.Popping.{Cube, values_at}
use Rattle.pop_model.specs.Instances.{Instance}
use Rattle.pop_model.specs.Text.{line}
use Rattle.prs_rounds.specs.Rounds.{IsRoundsEnd}
use Rattle.pop_samples.specs.Frames.{AreRows, Frame, IsFrame, Rows, over}
use Rattle.pop_samples.proofs.Conses.{same_kind}
use Rattle.pop_samples.specs.Lists.{AreAll}
use Rattle.round_samples.specs.Sampled.{Sampled, SampledBy}
use Rattle.round_samples.proofs.ExactCounts.{exact_rounds}
use Rattle.round_samples.proofs.ExchangedRounds.{rounds_suit}
use Rattle.pop_words.specs.declared.command.Command.TheVariants.{Rounds}
use Rattle.pop_words.specs.declared.job.Job.{Job}
use Rattle.dimacs_read.specs.CnfText.{AnswersCnf, cnf_of}
use Rattle.dimacs_read.specs.Falsifying.{AreEventsOf}
use Rattle.pop_watch.specs.Telling.{Watcher}
use Rattle.pop_print.specs.declared.facts.Facts.TheVariants.{Formula as FormulaFacts}
use Rattle.pop_print.specs.Output.{assignment_line, used_line}
use Rattle.pop_print.specs.Rounds.{rounds_line}
use Rattle.job_subjects.specs.Subjects.{pair_weights, Subject, assignments, instance_over}
use Rattle.top_call.specs.Answers.{wanted_by}
use Rattle.answer_laws.specs.ExactAnswers.{frame_over, over_rows}
use Rattle.answer_laws.specs.EverySample.{Satisfies}
use Rattle.answer_laws.specs.PrintedOnce.{AreBits}
use Rattle.answer_laws.specs.RoundAnswers.{IsRoundedBy, IsRoundedOutput, rounded_text}
use Rattle.answer_laws.specs.ExactOutputs.{AskOver, ExactRoundOutputs, PrintsOver}
use Rattle.answer_laws.proofs.EverySample.{every_assignment}
use Rattle.answer_laws.proofs.ExactAnswers.{sound_rows, values_are}
use Rattle.answer_laws.proofs.OneSubject.{one_subject}
use Rattle.answer_laws.proofs.PrintedApart.{assignments_apart}
use Rattle.answer_laws.proofs.RoundAnswers.{IsEndOfRounds, answered_by, comes_of_job, pairs_light, rounds_frame, rounds_subject}
use Rattle.answer_laws.proofs.RoundOutputs.{round_outputs}
use Rattle.answer_laws.proofs.OptionKinds.{rows_line}
use Rattle.answer_laws.proofs.LikeSamples.{few_variables}

module _ (job : Job) (text : List ℕ) (events : List (ℕ × Cube)) (heights : List ℕ) (words : Rows → List (List ℕ))
    (ws : List Watcher) (by : job.command ≡ Rounds) (spelled : AnswersCnf text (Ok (cnf_of text)))
    (are : AreEventsOf (cnf_of text).clauses events) (count : length heights ≡ (cnf_of text).variables)
    (some : All (λ h. 0 < h) heights) (ask : AskOver job (pair_weights (cnf_of text).variables) heights words) where
  -- the frame of the formula's events
  abbrev pub g : Frame
  g = frame_over (assignments (cnf_of text) events) heights

  -- it is one
  pub g_frame : IsFrame g
  g_frame = rounds_frame text events heights spelled are count some

  -- the values of an assignment that satisfies the formula
  satisfied_bits : (x : List ℕ) → Satisfies (cnf_of text) x → AreBits (cnf_of text).variables x
  satisfied_bits x is = record { count_is = is.count; bits = is.bits }

  -- rows that words over them are answered by rounds with an assignment are finished with it
  pub rounded_rows : (w c : List ℕ) (n : ℕ) (rows : Rows) → AreRows g.weights heights rows
      → IsRoundedBy (words rows) ws text w c n → SampledBy g w c n rows
  rounded_rows w c n rows shape r =
      let mine : Job = over_rows job rows in
      let e : IsEndOfRounds (GivenRows rows) text (FormulaFacts (cnf_of text).variables) r.instance c n [] None =
      (comes_of_job (words rows) ws text mine (FormulaFacts (cnf_of text).variables) r.instance c n [] None
      (ask rows shape) (rows_line (words rows) mine (ask rows shape) rows refl) r.outcome).1 in
      let same : assignments (cnf_of text) e.events ≡ assignments (cnf_of text) events =
      one_subject Rounds (wanted_by job) text (assignments (cnf_of text) e.events) (assignments (cnf_of text) events)
      (rounds_subject (wanted_by job) text e.events spelled e.of_formula)
      (rounds_subject (wanted_by job) text events spelled are) in
      let end : IsRoundsEnd (over g rows) c n [] None =
      subst (λ (t : Subject). IsRoundsEnd (instance_over (GivenRows rows) t) c n [] None) same e.end in
      let there : r.instance ≡ over g rows = e.instance_is ∙ ap (instance_over (GivenRows rows)) same in
      let size : length c ≡ length rows = (rounds_suit g g_frame rows shape c n end).size in
      record {
        shape = shape;
        end = end;
        entries = sym (values_are g.weights rows c size) ∙ ap (λ (i : Instance). values_at i.stacks c) (sym there)
            ∙ r.sample;
      }

  -- words that print an assignment are over rows that rounds finish with it
  pub prints_sampled : (w : List ℕ) (rows : Rows) → Satisfies (cnf_of text) w
      → PrintsOver g.weights heights words ws text (FormulaFacts (cnf_of text).variables) w rows → Sampled g w rows
  prints_sampled w rows ok p =
      let o : IsRoundedOutput (words rows) ws text p.prints.out =
      (round_outputs (over_rows job rows) (words rows) ws text p.prints.out by (ask rows p.shape)).0 p.prints.answer in
      let head : List ℕ = line (codes "s SAMPLE") in
      let rest : List ℕ = used_line o.cursors ++ rounds_line o.rounds in
      let whole : head ++ (assignment_line o.values ++ rest) ≡ head ++ (assignment_line w ++ p.prints.more) =
      sym (append_assoc head (assignment_line o.values) rest)
      ∙ sym (append_assoc (head ++ assignment_line o.values) (used_line o.cursors) (rounds_line o.rounds))
      ∙ sym o.out_is ∙ p.prints.out_is ∙ append_assoc head (assignment_line w) p.prints.more in
      let same : o.values ≡ w =
      assignments_apart (cnf_of text).variables o.values w rest p.prints.more (few_variables text spelled.0)
      (satisfied_bits o.values o.satisfied) (satisfied_bits w ok)
      (append_cancel_left head (assignment_line o.values ++ rest) (assignment_line w ++ p.prints.more) whole) in (
        o.cursors,
        (
          o.rounds,
          subst (λ (v : List ℕ). SampledBy g v o.cursors o.rounds rows) same
              (rounded_rows o.values o.cursors o.rounds rows p.shape o.by),
        ),
      )

  -- and the other way round
  pub sampled_prints : (w : List ℕ) (rows : Rows) → Satisfies (cnf_of text) w → Sampled g w rows
      → PrintsOver g.weights heights words ws text (FormulaFacts (cnf_of text).variables) w rows
  sampled_prints w rows ok (c, (n, s)) =
      let size : length c ≡ length rows = (rounds_suit g g_frame rows s.shape c n s.end).size in
      let r : IsRoundedBy (words rows) ws text w c n =
      answered_by (words rows) ws text (over_rows job rows) events w c n (ask rows s.shape) by spelled are
      (sound_rows g g_frame rows s.shape (pairs_light (cnf_of text).variables)) s.end
      (values_are g.weights rows c size ∙ s.entries) in
      record {
        shape = s.shape;
        prints = record {
          out = rounded_text w c n;
          more = used_line c ++ rounds_line n;
          answer = (round_outputs (over_rows job rows) (words rows) ws text (rounded_text w c n) by (ask rows s.shape)).1
              (record { values = w; cursors = c; rounds = n; by = r; satisfied = ok; out_is = refl });
          out_is = append_assoc (line (codes "s SAMPLE") ++ assignment_line w) (used_line c) (rounds_line n);
        };
      }

  -- so there are as many for one assignment as for another
  round_counts : (w x : List ℕ) → Satisfies (cnf_of text) w → Satisfies (cnf_of text) x → (all others : List Rows)
      → AreAll (PrintsOver g.weights heights words ws text (FormulaFacts (cnf_of text).variables) w) all
      → AreAll (PrintsOver g.weights heights words ws text (FormulaFacts (cnf_of text).variables) x) others
      → length all ≡ length others
  round_counts w x ok_w ok_x all others mine theirs =
      let Prints : List ℕ → Rows → Type 0 =
      PrintsOver g.weights heights words ws text (FormulaFacts (cnf_of text).variables) in
      (exact_rounds g g_frame tt w x (every_assignment (cnf_of text) events heights w are ok_w)
      (every_assignment (cnf_of text) events heights x are ok_x) all others
      (same_kind (Prints w) (Sampled g w) all mine (λ rows. prints_sampled w rows ok_w) (λ rows. sampled_prints w rows ok_w))
      (same_kind (Prints x) (Sampled g x) others theirs (λ rows. prints_sampled x rows ok_x)
      (λ rows. sampled_prints x rows ok_x))).count

-- the law of rounds
pub exact_round_outputs : ExactRoundOutputs
exact_round_outputs job text events heights words ws by spelled are count some =
    round_counts job text events heights words ws by spelled are count some
