-- Rows that are within the limits of arguments are written after `--stacks` in the form in which they are read.
-- Conversely, rows that arguments specify are within the limits.
use Rattle.std.proofs.Common.{◌≡◌, ◌<◌, ◌≤◌, ◌-◌, ◌^◌, ℕ, if◌then◌else◌, List, [], ◌∷◌, drop, None, Some, Ok, refl, sym, ap, subst, ◌∙◌, arith, codes, decimal}
use Rattle.std.specs.Prelude.{nat_le, ◌&&◌}
use Rattle.std.specs.Cmp.Derive.{both_true}
use Rattle.std.proofs.lemmas.Bool.{le-leb}
use Rattle.pop_stacks.specs.declared.stack_spec.StackSpec.TheVariants.{Given}
use Rattle.pop_words.specs.declared.command.Command.{Command}
use Rattle.pop_words.specs.declared.command.Command.TheVariants.{Formula, Orient, Tree, Make, Rounds}
use Rattle.pop_words.specs.declared.job.Job.{Job}
use Rattle.pop_words.specs.Values.{only_if, number_between}
use Rattle.pop_words.specs.Options.{default_job}
use Rattle.pop_words.specs.CommandLines.{Asks}
use Rattle.pop_words.specs.Reading.{reading}
use Rattle.pop_words.proofs.ReadingLemmas.{IsReading, reading_is}
use Rattle.pop_samples.specs.Frames.{Rows}
use Rattle.run_cert.specs.Heads.{rows_text, MayBeStacks}
use Rattle.run_cert.proofs.SpelledRows.{number_again, rows_again}
use Rattle.run_cert.proofs.AskedStacks.{asked_stacks}
use Rattle.answer_laws.specs.ExactAnswers.{over_rows, IsPlain, AskedRows}

-- the word of rows
abbrev word_of : Rows → List ℕ
word_of rows = drop 1 (rows_text rows)

-- a number within bounds is read again
number_read : (low high n : ℕ) → low ≤ n → n ≤ high → n < 2 ^ 32 → number_between low high (decimal n) ≡ Some n
number_read low high n from to fits =
    ap (only_if (λ m. nat_le low m && nat_le m high)) (number_again n fits)
    ∙ ap (λ b. if b then Some n else None) (both_true (le-leb low n from) (le-leb n high to))

-- words that are read as those for a plain job ask for the rows
asked_as : (job plain : Job) (rows : Rows) → job ≡ plain → (words : List (List ℕ))
    → reading words ≡ Ok (over_rows plain rows) → (ws : List (List ℕ)) × Asks ws (over_rows job rows)
asked_as job plain rows is words read =
    subst (λ j. (ws : List (List ℕ)) × Asks ws (over_rows j rows)) (sym is)
    (words, subst (IsReading words) read (reading_is words))

-- so words ask for rows within the limits
rows_asked : (k : Command) (job : Job) (rows : Rows) → IsPlain k job → MayBeStacks (Given rows)
    → (words : List (List ℕ)) × Asks words (over_rows job rows)
rows_asked Formula job rows is may =
    asked_as job (default_job Formula) rows is (codes "formula" ∷ codes "--stacks" ∷ word_of rows ∷ [])
    (rw (rows_again rows may) refl)
rows_asked Orient job rows is may =
    asked_as job (default_job Orient) rows is (codes "orient" ∷ codes "--stacks" ∷ word_of rows ∷ [])
    (rw (rows_again rows may) refl)
rows_asked Rounds job rows is may =
    asked_as job (default_job Rounds) rows is (codes "rounds" ∷ codes "--stacks" ∷ word_of rows ∷ [])
    (rw (rows_again rows may) refl)
rows_asked Tree job rows (root, some, fits, is) may =
    let read = number_read 1 (2 ^ 32 - 1) root (omega (arith, some)) (omega (arith, fits)) fits in
    asked_as job (record (default_job Tree) { root = root }) rows is
    (codes "tree" ∷ codes "--root" ∷ decimal root ∷ codes "--stacks" ∷ word_of rows ∷ [])
    (rw read (rw (rows_again rows may) refl))
rows_asked Make job rows (side, some, few, is) may =
    let read = number_read 1 2048 side (omega (arith, some)) few (omega (arith, few)) in
    asked_as job (record (default_job Make) { size = side }) rows is
    (codes "make" ∷ codes "grid" ∷ decimal side ∷ codes "--stacks" ∷ word_of rows ∷ [])
    (rw read (rw (rows_again rows may) refl))
rows_asked k job rows plain may = absurd plain

-- the law
pub asked_rows : AskedRows
asked_rows job rows plain = (
  λ (words, asks). asked_stacks words (over_rows job rows) asks,
  λ may. rows_asked job.command job rows plain may,
)
