-- The line of a record is its layer, if the version states one, and its tokens. A layer ends at a space, so a line
-- states one layer and has the same tokens after it, however it is cut.
use Rattle.std.proofs.Common.{inl, ◌≡◌, ℕ, ◌^◌, List, [], ◌∷◌, ◌++◌, sym, ap, ◌∙◌, arith, append_assoc, codes, decimal}
use Rattle.std.proofs.lemmas.List.{append_cancel_left}
use Rattle.pop_log.specs.declared.log_version.LogVersion.{LogVersion}
use Rattle.pop_log.specs.declared.log_version.LogVersion.TheVariants.{Ordered, Layered}
use Rattle.pop_log.specs.Decimals.{BeginsWith}
use Rattle.pop_log.specs.Printed.{Printed, record_words, words_line}
use Rattle.pop_log.specs.LayeredTexts.{Written, layered_line}
use Rattle.pop_log.specs.LogVersions.{line_of, LayerFits}
use Rattle.pop_log.specs.RecordWords.{SaysLayer, HasWords}
use Rattle.pop_log.proofs.LogTextsLemmas.{number_cut, sign, tail_same}

-- the parts of a line of version 2
line_parts : (w : Written) → layered_line w ≡ codes "pop " ++ (decimal w.0 ++ 32 ∷ words_line w.1)
line_parts w =
    append_assoc (codes "pop " ++ decimal w.0) (32 ∷ record_words w.1) (10 ∷ [])
    ∙ append_assoc (codes "pop ") (decimal w.0) (32 ∷ words_line w.1)

-- a record's line has its layer and its words
pub line_has_words : (version : LogVersion) (l : List ℕ) (w : Written) → LayerFits version w.0 → l ≡ line_of version w
    → HasWords version l w.0 (words_line w.1)
line_has_words Ordered l w fits is = (fits, is)
line_has_words Layered l w fits is = record { some = fits.0; small = fits.1; line_is = is ∙ line_parts w }

-- a line with the words of a record is that record's
pub words_make_line : (version : LogVersion) (l words : List ℕ) (y : ℕ) (p : Printed) → HasWords version l y words
    → words ≡ words_line p → l ≡ line_of version (y, p)
words_make_line Ordered l words y p has is = has.1 ∙ ap (λ ws. codes "pop " ++ ws) is
words_make_line Layered l words y p has is =
    has.line_is ∙ ap (λ ws. codes "pop " ++ (decimal y ++ 32 ∷ ws)) is ∙ sym (line_parts (y, p))

-- the layer is one that this version may say
pub layer_fits : (version : LogVersion) (l words : List ℕ) (y : ℕ) → HasWords version l y words → LayerFits version y
layer_fits Ordered l words y has = has.0
layer_fits Layered l words y has = (has.some, has.small)

-- a line has one layer and the same words
pub words_agree : (version : LogVersion) (l : List ℕ) (y z : ℕ) (words others : List ℕ) → HasWords version l y words
    → HasWords version l z others → (y ≡ z) × (words ≡ others)
words_agree Ordered l y z words others a b =
    (a.0 ∙ sym b.0, append_cancel_left (codes "pop ") words others (sym a.1 ∙ b.1))
words_agree Layered l y z words others a b =
    let even : decimal y ++ 32 ∷ words ≡ decimal z ++ 32 ∷ others =
    append_cancel_left (codes "pop ") (decimal y ++ 32 ∷ words) (decimal z ++ 32 ∷ others) (sym a.line_is ∙ b.line_is) in
    let cut = number_cut y z (32 ∷ words) (32 ∷ others) a.small b.small (sign 32 (inl (omega arith)))
    (sign 32 (inl (omega arith))) even in
    (cut.0, tail_same 32 32 words others cut.1)

-- what a line that says a layer begins with
says_begins : (l text : List ℕ) → l ≡ codes "pop " ++ text → (y : ℕ) (rest : List ℕ) → SaysLayer l y rest
    → BeginsWith (2 ^ 64) text y (32 ∷ rest)
says_begins l text is y rest says =
    record {
      small = says.small;
      ends = sign 32 (inl (omega arith));
      text_is = append_cancel_left (codes "pop ") text (decimal y ++ 32 ∷ rest) (sym is ∙ says.line_is);
    }

-- the layer of a line is the number behind `pop `
same_number : (l text : List ℕ) (n : ℕ) (behind : List ℕ) → l ≡ codes "pop " ++ text → BeginsWith (2 ^ 64) text n behind
    → (y : ℕ) (rest : List ℕ) → SaysLayer l y rest → (n ≡ y) × (behind ≡ 32 ∷ rest)
same_number l text n behind is begins y rest says =
    let other = says_begins l text is y rest says in
    number_cut n y behind (32 ∷ rest) begins.small other.small begins.ends other.ends (sym begins.text_is ∙ other.text_is)

-- which isn't 0
pub no_layer_0 : (l text : List ℕ) (n : ℕ) (behind : List ℕ) → l ≡ codes "pop " ++ text
    → BeginsWith (2 ^ 64) text n behind → n ≡ 0 → (y : ℕ) (rest : List ℕ) → SaysLayer l y rest → ⊥
no_layer_0 l text n behind is begins none y rest says =
    let same = (same_number l text n behind is begins y rest says).0 in
    let some = says.some in
    omega (arith, same, some, none)

-- and has a space behind it
pub no_space : (l text : List ℕ) (n : ℕ) (behind : List ℕ) → l ≡ codes "pop " ++ text
    → BeginsWith (2 ^ 64) text n behind → ((rest : List ℕ) → behind ≡ 32 ∷ rest → ⊥) → (y : ℕ) (rest : List ℕ)
    → SaysLayer l y rest → ⊥
no_space l text n behind is begins none y rest says = none rest (same_number l text n behind is begins y rest says).1
