-- The command word: what is read behind it answers the words, and where it is none the first place is bad.
use Rattle.std.proofs.Common.{◌≡◌, ℕ, ◌<◌, List, [], ◌∷◌, length, map, get_or, string_bytes, String, None, Some, Result, Ok, Err, IfOk, IfErr, refl, sym, ap, ◌∙◌, arith, subst}
use Rattle.pop_words.specs.declared.command.Command.{Command}
use Rattle.pop_words.specs.declared.job.Job.{Job}
use Rattle.pop_words.specs.declared.fault.WordFault.{WordFault}
use Rattle.pop_words.specs.declared.fault.WordFault.TheVariants.{Usage, OutOfMemory}
use Rattle.pop_words.specs.CommandLines.{Asks, IsBadPlace, IsWordFault}
use Rattle.pop_words.specs.Reading.{behind, command_named, read_on, reading, IsRead}
use Rattle.pop_words.proofs.ReadingLemmas.{IsReading, reading_is}

-- the reading, by the first word
pub reading_at : {A : Type 0} (words : List (String A)) (word : String A) → 0 < length words
    → word ≡ get_or words 0 word
    → reading (map string_bytes words) ≡ read_on 1 (command_named (string_bytes word))
    (λ c. behind c (map string_bytes words))
reading_at [] word some is = absurd (omega arith)
reading_at (first ∷ words) word some is = ap (λ w. read_on 1 (command_named (string_bytes w))
    (λ c. behind c (map string_bytes (first ∷ words)))) (sym is)

-- what was read answers the words
pub answers : (words : List (List ℕ)) (result : Result Job WordFault) → IsRead (reading words) result
    → IfOk result (λ job. Asks words job) × IfErr result (IsWordFault words)
answers words (Ok job) read = (subst (IsReading words) read (reading_is words), tt)
answers words (Err (Usage place)) read = (tt, subst (IsReading words) read (reading_is words))
answers words (Err OutOfMemory) read = (tt, tt)

-- what was read behind a command word
pub answers_behind : {A : Type 0} (words : List (String A)) (word : String A) (command : Command)
    (result : Result Job WordFault)
    → 0 < length words → word ≡ get_or words 0 word → command_named (string_bytes word) ≡ Some command
    → IsRead (behind command (map string_bytes words)) result
    → IfOk result (λ job. Asks (map string_bytes words) job) × IfErr result (IsWordFault (map string_bytes words))
answers_behind words word command result some is named read =
    let whole : reading (map string_bytes words) ≡ behind command (map string_bytes words) =
    reading_at words word some is ∙ ap (λ f. read_on 1 f (λ c. behind c (map string_bytes words))) named in
    answers (map string_bytes words) result (subst (λ r. IsRead r result) (sym whole) read)

-- a first word that is no command
pub no_command : {A : Type 0} (words : List (String A)) (word : String A) → 0 < length words
    → word ≡ get_or words 0 word
    → command_named (string_bytes word) ≡ None → IsBadPlace (map string_bytes words) 1
no_command words word some is none =
    (answers (map string_bytes words) (Err (Usage 1)) (reading_at words word some is
    ∙ ap (λ f. read_on 1 f (λ c. behind c (map string_bytes words))) none)).1

-- no words
pub no_words : {A : Type 0} (words : List (String A)) → length words ≡ 0 → IsBadPlace (map string_bytes words) 1
no_words [] none = (answers [] (Err (Usage 1)) refl).1
no_words (word ∷ words) none = absurd (omega arith)
