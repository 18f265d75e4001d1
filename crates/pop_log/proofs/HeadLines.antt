-- A first line has one version and one count: its number ends where its line does.
use Rattle.std.proofs.Common.{inl, ◌≡◌, ℕ, suc, ◌^◌, ◌<◌, List, [], ◌∷◌, ◌++◌, refl, sym, ap, ◌∙◌, arith, codes, decimal}
use Rattle.std.proofs.lemmas.List.{append_cancel_left}
use Rattle.pop_model.specs.Text.{line}
use Rattle.pop_log.specs.Decimals.{BeginsWith}
use Rattle.pop_log.specs.LogTexts.{head_line}
use Rattle.pop_log.specs.LayeredTexts.{layered_head}
use Rattle.pop_log.specs.LogVersions.{head_of}
use Rattle.pop_log.specs.declared.log_version.LogVersion.{LogVersion}
use Rattle.pop_log.specs.declared.log_version.LogVersion.TheVariants.{Ordered, Layered}
use Rattle.pop_log.proofs.LogTextsLemmas.{number_cut, sign}

-- the count behind a front
pub count_is : (front l text rest : List ℕ) (n : ℕ) → l ≡ front ++ text → BeginsWith (2 ^ 64) text n rest
    → rest ≡ 10 ∷ [] → (n < 2 ^ 64) × (l ≡ front ++ line (decimal n))
count_is front l text rest n is begins end = (
  begins.small,
  is ∙ ap (λ r. front ++ r) (begins.text_is ∙ ap (λ r. decimal n ++ r) end),
)

-- a line that doesn't begin with the front says no count
pub no_front : (front l : List ℕ) → ((rest : List ℕ) → l ≡ front ++ rest → ⊥) → (n : ℕ) → n < 2 ^ 64
    → l ≡ front ++ line (decimal n) → ⊥
no_front front l none n small is = none (line (decimal n)) is

-- nor one that goes on behind its number
pub no_count_end : (front l text rest : List ℕ) (m : ℕ) → l ≡ front ++ text → BeginsWith (2 ^ 64) text m rest
    → (rest ≡ 10 ∷ [] → ⊥) → (n : ℕ) → n < 2 ^ 64 → l ≡ front ++ line (decimal n) → ⊥
no_count_end front l text rest m is begins no_end n small same =
    let after : text ≡ decimal n ++ 10 ∷ [] = append_cancel_left front text (decimal n ++ 10 ∷ []) (sym is ∙ same) in
    let cut = number_cut m n rest (10 ∷ []) begins.small small begins.ends (sign 10 (inl (omega arith)))
    (sym begins.text_is ∙ after) in
    no_end cut.1

-- counts behind one front are the same
one_count : (m n : ℕ) → m < 2 ^ 64 → n < 2 ^ 64 → decimal m ++ 10 ∷ [] ≡ decimal n ++ 10 ∷ [] → m ≡ n
one_count m n small small' same =
    (number_cut m n (10 ∷ []) (10 ∷ []) small small' (sign 10 (inl (omega arith))) (sign 10 (inl (omega arith))) same).0

-- a first line of version 1 says one count
ordered_once : (m n : ℕ) → m < 2 ^ 64 → n < 2 ^ 64 → head_line m ≡ head_line n → m ≡ n
ordered_once m n small small' same =
    let even : codes "log 1 " ++ (decimal m ++ 10 ∷ []) ≡ codes "log 1 " ++ (decimal n ++ 10 ∷ []) = same in
    one_count m n small small' (cc)

-- and so does one of version 2
layered_once : (m n : ℕ) → m < 2 ^ 64 → n < 2 ^ 64 → layered_head m ≡ layered_head n → m ≡ n
layered_once m n small small' same =
    let even : codes "log 2 " ++ (decimal m ++ 10 ∷ []) ≡ codes "log 2 " ++ (decimal n ++ 10 ∷ []) = same in
    one_count m n small small' (cc)

-- none is that of both
versions_differ : (m n : ℕ) → head_line m ≡ layered_head n → ⊥
versions_differ m n same =
    let even : codes "log 1 " ++ (decimal m ++ 10 ∷ []) ≡ codes "log 2 " ++ (decimal n ++ 10 ∷ []) = same in
    let digit : 49 ≡ suc 49 = cc in
    omega (arith, digit)

-- a first line says one version and one count
pub heads_once : (version other : LogVersion) (m n : ℕ) → m < 2 ^ 64 → n < 2 ^ 64 → head_of version m ≡ head_of other n
    → (version ≡ other) × (m ≡ n)
heads_once Ordered Ordered m n small small' same = (refl, ordered_once m n small small' same)
heads_once Ordered Layered m n small small' same = absurd (versions_differ m n same)
heads_once Layered Ordered m n small small' same = absurd (versions_differ n m (sym same))
heads_once Layered Layered m n small small' same = (refl, layered_once m n small small' same)
