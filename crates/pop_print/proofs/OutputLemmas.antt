-- The lines of an end, one member after another.
use Rattle.std.proofs.Common.{◌≡◌, ℕ, ◌+◌, ◌<◌, ◌≤◌, List, [], ◌∷◌, ◌++◌, length, take, get_or, slice_index, codes, Result, OnOk, sym, ap, ◌∙◌, arith, append_assoc, zero-add}
use Rattle.std.specs.List.{enumerate_from}
use Rattle.std.proofs.lemmas.List.{take_all, get_or-map, length-map}
use Rattle.std.proofs.lemmas.Result.{on_ok_weaker}
use Rattle.std.proofs.lemmas.List.FromFn.{get_or-enumerate_from, length-enumerate_from}
use Rattle.pop_model.specs.Families.{Event, Family}
use Rattle.pop_model.specs.Popping.{values_at}
use Rattle.pop_model.specs.Instances.{Instance}
use Rattle.pop_model.specs.Text.{spaced}
use Rattle.pop_text.proofs.PrintedMembers.{flat_map-take}
use Rattle.pop_print.specs.declared.facts.Facts.{Facts}
use Rattle.pop_print.specs.declared.facts.Facts.TheVariants.{Formula, Orient, Tree, Made}
use Rattle.pop_print.specs.Ends.{IsToldInFull}
use Rattle.pop_print.specs.Output.{literal_of, literals_of, assignment_line, stuck_lines, found_lines, sample_lines, used_line, pops_line, full_text, end_text}

-- a member under its number
pub numbered_at : {X : Type 0} (xs : List X) (i : ℕ) (x : X) → i < length xs → x ≡ get_or xs i x
    → get_or (enumerate_from 0 xs) i (i, x) ≡ (i, x)
numbered_at {X} xs i x below is =
    let pair : ℕ → X → ℕ × X = λ n y. (n, y) in
    get_or-enumerate_from 0 xs i (pair i x) below ∙ ap (λ n. pair n (get_or xs i x)) (zero-add i) ∙ ap (pair i) (sym is)

-- one literal for each variable
pub length-literals_of : (values : List ℕ) → length (literals_of values) ≡ length values
length-literals_of values =
    length-map (enumerate_from 0 values) (λ p. literal_of p.0 p.1) ∙ length-enumerate_from 0 values

-- the literal of a variable
pub literal_at : (values : List ℕ) (v : ℕ) (d : List ℕ) → v < length values
    → get_or (literals_of values) v d ≡ literal_of v (slice_index values v)
literal_at values v d below =
    let literal : ℕ × ℕ → List ℕ = λ p. literal_of p.0 p.1 in
    let pair : ℕ → ℕ → ℕ × ℕ = λ n k. (n, k) in
    let inside : v < length (enumerate_from 0 values) = omega (arith, length-enumerate_from 0 values) in
    let at : get_or (enumerate_from 0 values) v (pair 0 0) ≡ pair v (slice_index values v) =
    get_or-enumerate_from 0 values v (pair 0 0) below ∙ ap (λ n. pair n (slice_index values v)) (zero-add v) in
    get_or-map literal (enumerate_from 0 values) v (pair 0 0) d inside ∙ ap literal at

-- one variable more of an assignment
pub literal_more : (values : List ℕ) (v x : ℕ) (before out new : List ℕ) → v < length values
    → x ≡ slice_index values v
    → out ≡ before ++ (codes "v" ++ spaced (take v (literals_of values))) → new ≡ out ++ 32 ∷ literal_of v x
    → new ≡ before ++ (codes "v" ++ spaced (take (v + 1) (literals_of values)))
literal_more values v x before out new below value printed pushed =
    let all = literals_of values in
    let inside : v < length all = omega (arith, length-literals_of values) in
    let is : get_or all v (literal_of v x) ≡ literal_of v x = literal_at values v (literal_of v x) below
    ∙ ap (literal_of v) (sym value) in
    let more : spaced (take (v + 1) all) ≡ spaced (take v all) ++ 32 ∷ literal_of v x =
    flat_map-take (λ word. 32 ∷ word) all v (literal_of v x) inside is in
    pushed ∙ ap (λ l. l ++ 32 ∷ literal_of v x) printed
    ∙ append_assoc before (codes "v" ++ spaced (take v all)) (32 ∷ literal_of v x)
    ∙ ap (λ l. before ++ l) (append_assoc (codes "v") (spaced (take v all)) (32 ∷ literal_of v x)
    ∙ ap (λ l. codes "v" ++ l) (sym more))

-- the whole line of an assignment
assignment_whole : (values : List ℕ) (n : ℕ) (before out new : List ℕ) → length values ≤ n
    → out ≡ before ++ (codes "v" ++ spaced (take n (literals_of values))) → new ≡ out ++ codes " 0\n"
    → new ≡ before ++ assignment_line values
assignment_whole values n before out new all printed pushed =
    let whole : take n (literals_of values) ≡ literals_of values =
    take_all n (literals_of values) (omega (arith, length-literals_of values)) in
    let text = codes "v" ++ spaced (literals_of values) in
    pushed ∙ ap (λ l. l ++ codes " 0\n") (printed ∙ ap (λ l. before ++ (codes "v" ++ spaced l)) whole)
    ∙ append_assoc before text (codes " 0\n") ∙ ap (λ l. before ++ l)
    (sym (append_assoc text (codes " 0") (codes "\n")))

-- it is told where there is the memory for it
pub assignment_told : {X E : Type 0} (pushed : Result X E) (values : List ℕ) (n : ℕ) (before out new : List ℕ)
    → length values ≤ n → out ≡ before ++ (codes "v" ++ spaced (take n (literals_of values)))
    → OnOk pushed (new ≡ out ++ codes " 0\n") → OnOk pushed (new ≡ before ++ assignment_line values)
assignment_told pushed values n before out new all printed =
    on_ok_weaker pushed (assignment_whole values n before out new all printed)

-- what is found where some event occurs
pub found_some : (facts : Facts) (family : Family) (values : List ℕ) (stuck : List Event) (before out new : List ℕ)
    → 0 < length stuck → out ≡ before ++ codes "s EXHAUSTED\n" → new ≡ out ++ stuck_lines facts family stuck
    → new ≡ before ++ found_lines facts family values stuck
found_some facts family values [] before out new some first pushed = absurd (omega arith)
found_some facts family values (e ∷ stuck) before out new some first pushed =
    pushed ∙ ap (λ l. l ++ stuck_lines facts family (e ∷ stuck)) first
    ∙ append_assoc before (codes "s EXHAUSTED\n") (stuck_lines facts family (e ∷ stuck))

-- the text of an end at which no event occurs, in full, and piece by piece
in_full : (facts : Facts) (i : Instance) (cursors : List ℕ) (pops : ℕ) (values o₁ o₂ o₃ o₄ : List ℕ)
    → values ≡ values_at i.stacks cursors → o₁ ≡ codes "s SAMPLE\n" → o₂ ≡ o₁ ++ sample_lines facts values
    → o₃ ≡ o₂ ++ used_line cursors → o₄ ≡ o₃ ++ pops_line pops → o₄ ≡ full_text facts i cursors pops []
in_full facts i cursors pops values o₁ o₂ o₃ o₄ are first second third fourth =
    let lines : List ℕ → List ℕ = λ shown. codes "s SAMPLE\n" ++ sample_lines facts shown in
    fourth ∙ ap (λ o. o ++ pops_line pops) (third ∙ ap (λ o. o ++ used_line cursors)
    (second ∙ ap (λ o. o ++ sample_lines facts values) first))
    ∙ ap (λ shown. lines shown ++ used_line cursors ++ pops_line pops) are

-- which is its text, where no grid was made
pub sample_told : (facts : Facts) (i : Instance) (cursors : List ℕ) (pops : ℕ) (stuck : List Event)
    (values o₁ o₂ o₃ o₄ : List ℕ) → IsToldInFull facts → stuck ≡ [] → values ≡ values_at i.stacks cursors
    → o₁ ≡ codes "s SAMPLE\n" → o₂ ≡ o₁ ++ sample_lines facts values → o₃ ≡ o₂ ++ used_line cursors
    → o₄ ≡ o₃ ++ pops_line pops → o₄ ≡ end_text facts i cursors pops stuck
sample_told (Made side) i cursors pops stuck values o₁ o₂ o₃ o₄ full none are first second third fourth = absurd full
sample_told (Formula n) i cursors pops stuck values o₁ o₂ o₃ o₄ full none are first second third fourth =
    in_full (Formula n) i cursors pops values o₁ o₂ o₃ o₄ are first second third fourth
    ∙ ap (full_text (Formula n) i cursors pops) (sym none)
sample_told (Orient g) i cursors pops stuck values o₁ o₂ o₃ o₄ full none are first second third fourth =
    in_full (Orient g) i cursors pops values o₁ o₂ o₃ o₄ are first second third fourth
    ∙ ap (full_text (Orient g) i cursors pops) (sym none)
sample_told (Tree g root) i cursors pops stuck values o₁ o₂ o₃ o₄ full none are first second third fourth =
    in_full (Tree g root) i cursors pops values o₁ o₂ o₃ o₄ are first second third fourth
    ∙ ap (full_text (Tree g root) i cursors pops) (sym none)
