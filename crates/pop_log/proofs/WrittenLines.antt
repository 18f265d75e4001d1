-- The lines of a log text. No byte of a record's tokens ends a line, so the lines of the text of written records are
-- theirs. A line is that of one record and layer, and lines are those of one version.
use Rattle.std.proofs.Common.{◌≡◌, ◌≢◌, ℕ, ◌^◌, ◌<◌, ◌≤◌, false, List, [], ◌∷◌, ◌++◌, length, map, flat_map, refl, sym, ap, ap₂, ◌∙◌, arith, length-append, eqb, if◌then◌else◌, codes, decimal}
use Rattle.std.specs.List.{AllByRecursion}
use Rattle.std.proofs.lemmas.Bool.{ne_eqb}
use Rattle.pop_model.specs.Families.{Family}
use Rattle.pop_model.specs.Instances.{Instance, IsInstance}
use Rattle.pop_model.specs.Text.{line}
use Rattle.pop_log.specs.declared.names.Names.{Names}
use Rattle.pop_log.specs.declared.log_version.LogVersion.{LogVersion}
use Rattle.pop_log.specs.declared.log_version.LogVersion.TheVariants.{Ordered, Layered}
use Rattle.pop_log.specs.Decimals.{AreDigits}
use Rattle.pop_log.specs.Printed.{Printed, joined, record_words, words_line}
use Rattle.pop_log.specs.PrintedWords.{PairFits, FitsWords}
use Rattle.pop_log.specs.Candidates.{NumbersFit}
use Rattle.pop_log.specs.TextLines.{onto_line, lines_with_ends}
use Rattle.pop_log.specs.LayeredTexts.{Written}
use Rattle.pop_log.specs.LogVersions.{head_of, line_of, LayerFits, MayBeWritten, AreLogLines}
use Rattle.pop_log.proofs.Fronts.{each_append}
use Rattle.pop_log.proofs.LogTextsLemmas.{decimal_digits, pairs_text}
use Rattle.pop_log.proofs.ReadRecords.{may_fits, words_once}
use Rattle.pop_log.proofs.RecordWordsLemmas.{line_has_words, words_agree}
use Rattle.pop_log.proofs.HeadLines.{heads_once}
use Rattle.pop_log.proofs.ReadingLemmas.{line_some}

-- a byte that ends no line
abbrev IsOther : ℕ → Type 0
IsOther b = b ≢ 10

-- no byte of these ends a line
abbrev AreOther : List ℕ → Type 0
AreOther bs = AllByRecursion IsOther bs

-- no digit does
digits_other : (ds : List ℕ) → AreDigits ds → AreOther ds
digits_other [] are = tt
digits_other (d ∷ ds) are = ((λ is. let low = are.0.0 in omega (arith, is, low)), digits_other ds are.1)

-- nor does a byte of pairs
pairs_other : (ps : List (ℕ × ℕ)) → AllByRecursion PairFits ps → AreOther (pairs_text ps)
pairs_other [] fit = tt
pairs_other (p ∷ ps) fit =
    let one = fit.0.0 in
    let two = fit.0.1 in
    let name = digits_other (decimal p.0) (decimal_digits p.0 (omega (arith, one))) in
    let entry = digits_other (decimal p.1) (decimal_digits p.1 (omega (arith, two))) in (
      (λ is. omega (arith, is)),
      each_append IsOther (joined 58 p) (pairs_text ps)
          (each_append IsOther (decimal p.0) (58 ∷ decimal p.1) name ((λ is. omega (arith, is)), entry))
          (pairs_other ps fit.1),
    )

-- the first of the lines is that of bytes without a line end
first_line_is : (bs t : List ℕ) → AreOther bs → lines_with_ends (line bs ++ t) ≡ line bs ∷ lines_with_ends t
first_line_is [] t others = refl
first_line_is (b ∷ bs) t others =
    let test : eqb b 10 ≡ false = ne_eqb b 10 others.0 in
    ap (λ x. if x then (b ∷ []) ∷ lines_with_ends (line bs ++ t) else onto_line b (lines_with_ends (line bs ++ t)))
    test
    ∙ ap (onto_line b) (first_line_is bs t others.1)

-- nor a byte of a record's words
words_other : (p : Printed) → FitsWords p → AreOther (record_words p)
words_other p fits =
    let small = fits.0 in
    let number = digits_other (decimal p.number) (decimal_digits p.number (omega (arith, small))) in
    each_append IsOther (decimal p.number) (pairs_text p.pairs) number (pairs_other p.pairs fits.1)

-- nor one of `pop `
pop_other : AreOther (codes "pop ")
pop_other = (λ h. omega (arith, h), (λ h. omega (arith, h), (λ h. omega (arith, h), (λ h. omega (arith, h), tt))))

-- the bytes of a record's line before its end
abbrev body_of : LogVersion → Written → List ℕ
body_of Ordered w = codes "pop " ++ record_words w.1
body_of Layered w = codes "pop " ++ decimal w.0 ++ 32 ∷ record_words w.1

-- with its end they are the line
body_line : (version : LogVersion) (w : Written) → line_of version w ≡ line (body_of version w)
body_line Ordered w = refl
body_line Layered w = refl

-- none of them ends a line
body_other : (version : LogVersion) (w : Written) → LayerFits version w.0 → FitsWords w.1 → AreOther (body_of version w)
body_other Ordered w layer fits =
    each_append IsOther (codes "pop ") (record_words w.1) pop_other (words_other w.1 fits)
body_other Layered w layer fits =
    each_append IsOther (codes "pop " ++ decimal w.0) (32 ∷ record_words w.1)
    (each_append IsOther (codes "pop ") (decimal w.0) pop_other (digits_other (decimal w.0) (decimal_digits w.0 layer.1)))
    ((λ h. omega (arith, h)), words_other w.1 fits)

-- the lines of the texts of records are those of the records
record_lines : (names : Names) (i : Instance) (version : LogVersion) (ws : List Written) → IsInstance i
    → NumbersFit i.family → AllByRecursion (MayBeWritten names i.family version) ws
    → lines_with_ends (flat_map (line_of version) ws) ≡ map (line_of version) ws
record_lines names i version [] is numbers may = refl
record_lines names i version (w ∷ ws) is numbers may =
    let others = body_other version w may.0.layer (may_fits names i is numbers w.1 may.0.record_is) in
    ap (λ (l : List ℕ). lines_with_ends (l ++ flat_map (line_of version) ws)) (body_line version w)
    ∙ first_line_is (body_of version w) (flat_map (line_of version) ws) others
    ∙ ap₂ (λ (l : List ℕ) (ls : List (List ℕ)). l ∷ ls) (sym (body_line version w))
    (record_lines names i version ws is numbers may.1)

-- nor of what stands before the count
front_other : (b : ℕ) → IsOther b → AreOther (108 ∷ 111 ∷ 103 ∷ 32 ∷ b ∷ 32 ∷ [])
front_other b other = (
  λ h. omega (arith, h),
  (λ h. omega (arith, h), (λ h. omega (arith, h), (λ h. omega (arith, h), (other, (λ h. omega (arith, h), tt))))),
)

-- and the first line of a log text is its first
head_lines : (version : LogVersion) (n : ℕ) (t : List ℕ) → n < 2 ^ 64
    → lines_with_ends (head_of version n ++ t) ≡ head_of version n ∷ lines_with_ends t
head_lines Ordered n t small =
    first_line_is (codes "log 1 " ++ decimal n) t
    (each_append IsOther (codes "log 1 ") (decimal n) (front_other 49 (λ h. omega (arith, h)))
    (digits_other (decimal n) (decimal_digits n small)))
head_lines Layered n t small =
    first_line_is (codes "log 2 " ++ decimal n) t
    (each_append IsOther (codes "log 2 ") (decimal n) (front_other 50 (λ h. omega (arith, h)))
    (digits_other (decimal n) (decimal_digits n small)))

-- there are no more records than bytes in their lines
records_few : (version : LogVersion) (ws : List Written) → length ws ≤ length (flat_map (line_of version) ws)
records_few version [] = omega arith
records_few version (w ∷ ws) =
    let rest = records_few version ws in
    let sum = length-append (line_of version w) (flat_map (line_of version) ws) in
    let some = line_some version w in
    omega (arith, rest, sum, some)

-- the lines of the text of written records
pub text_lines : (names : Names) (i : Instance) (version : LogVersion) (text : List ℕ) (ws : List Written)
    → IsInstance i
    → NumbersFit i.family → AllByRecursion (MayBeWritten names i.family version) ws → length ws < 2 ^ 64
    → text ≡ head_of version (length ws) ++ flat_map (line_of version) ws
    → AreLogLines names i.family version (lines_with_ends text) ws
text_lines names i version text ws is numbers may few text_is =
    record {
      lines_are = ap lines_with_ends text_is
          ∙ head_lines version (length ws) (flat_map (line_of version) ws) few
          ∙ ap (λ (ls : List (List ℕ)). head_of version (length ws) ∷ ls) (record_lines names i version ws is numbers may);
      count = few;
      records = may;
    }

-- there are fewer than 2 ^ 64 written records in a short text
pub few_written : (version : LogVersion) (text : List ℕ) (ws : List Written)
    → text ≡ head_of version (length ws) ++ flat_map (line_of version) ws → length text ≤ 2 ^ 28 → length ws < 2 ^ 64
few_written version text ws text_is short =
    let few = records_few version ws in
    let whole = ap length text_is in
    let sum = length-append (head_of version (length ws)) (flat_map (line_of version) ws) in
    omega (arith, few, whole, sum, short)

-- a line is that of one record and layer
line_once : (version : LogVersion) (w u : Written) → LayerFits version w.0 → LayerFits version u.0 → FitsWords w.1
    → FitsWords u.1 → line_of version w ≡ line_of version u → w ≡ u
line_once version w u layer layer' fits fits' same =
    let l = line_of version w in
    let both = words_agree version l w.0 u.0 (words_line w.1) (words_line u.1) (line_has_words version l w layer refl)
    (line_has_words version l u layer' same) in
    ap₂ (λ (y : ℕ) (p : Printed). (y, p)) both.0 (words_once w.1 u.1 fits fits' both.1)

-- lines are those of one list of records
pub lines_once : (names : Names) (i : Instance) (version : LogVersion) (ws us : List Written) → IsInstance i
    → NumbersFit i.family → AllByRecursion (MayBeWritten names i.family version) ws
    → AllByRecursion (MayBeWritten names i.family version) us
    → map (line_of version) ws ≡ map (line_of version) us → ws ≡ us
lines_once names i version [] [] is numbers may may' same = refl
lines_once names i version [] (u ∷ us) is numbers may may' same = absurd (cc)
lines_once names i version (w ∷ ws) [] is numbers may may' same = absurd (cc)
lines_once names i version (w ∷ ws) (u ∷ us) is numbers may may' same =
    let first : line_of version w ≡ line_of version u = cc in
    let rest : map (line_of version) ws ≡ map (line_of version) us = cc in
    ap₂ (λ (x : Written) (l : List Written). x ∷ l)
    (line_once version w u may.0.layer may'.0.layer (may_fits names i is numbers w.1 may.0.record_is)
    (may_fits names i is numbers u.1 may'.0.record_is) first)
    (lines_once names i version ws us is numbers may.1 may'.1 rest)

-- lines of one text are those of one version
pub one_version : (names : Names) (family : Family) (version other : LogVersion) (lines : List (List ℕ))
    (ws us : List Written) → AreLogLines names family version lines ws → AreLogLines names family other lines us
    → version ≡ other
one_version names family version other lines ws us are are' =
    let both : head_of version (length ws) ∷ map (line_of version) ws
    ≡ head_of other (length us) ∷ map (line_of other) us = sym are.lines_are ∙ are'.lines_are in
    let head : head_of version (length ws) ≡ head_of other (length us) = cc in
    (heads_once version other (length ws) (length us) are.count are'.count head).0

-- and of one list of records
pub one_list : (names : Names) (i : Instance) (version : LogVersion) (lines : List (List ℕ)) (ws us : List Written)
    → IsInstance i → NumbersFit i.family → AreLogLines names i.family version lines ws
    → AreLogLines names i.family version lines us → ws ≡ us
one_list names i version lines ws us is numbers are are' =
    let both : head_of version (length ws) ∷ map (line_of version) ws
    ≡ head_of version (length us) ∷ map (line_of version) us = sym are.lines_are ∙ are'.lines_are in
    let rest : map (line_of version) ws ≡ map (line_of version) us = cc in
    lines_once names i version ws us is numbers are.records are'.records rest
