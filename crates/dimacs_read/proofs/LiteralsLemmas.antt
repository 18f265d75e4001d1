-- The literals of a formula are those of its variables. A word that is no fault is a literal of one of them, and no
-- word
-- spells a literal 0; so the clauses of the words are of such literals, and their cubes name variables of the formula.
use Rattle.std.proofs.Common.{◌≡◌, ℕ, suc, ◌-◌, ◌<◌, ◌≤◌, ◌^◌, true, false, ◌&&◌, nat_eq, nat_lt, ◌==◌, if◌then◌else◌, ℤ, pos, negsuc, nat_abs, List, [], ◌∷◌, ◌++◌, length, map, flat_map, get_or, Option, None, Some, option_and_then, refl, sym, ap, subst, ◌∙◌, arith, All, Contains}
use Rattle.std.specs.Prelude.{⊤, not, take_while}
use Rattle.std.specs.List.{onto_first}
use Rattle.std.proofs.lemmas.Bool.{eqb-false}
use Rattle.std.proofs.lemmas.List.{get_or-map, length-map, map-append}
use Rattle.std.proofs.lemmas.List.Concat.{flat_map-cons}
use Rattle.std.proofs.lemmas.List.Elements.{All-nil, All-cons, All-head, All-tail, All-get_or, Contains-get_or}
use Rattle.std.proofs.lemmas.Option.{get_or_from_slice_get, slice_get_within}
use Rattle.pop_model.specs.Popping.{Cube}
use Rattle.pop_edge.specs.Numbers.{number_of}
use Rattle.dimacs_read.specs.declared.token.Token.{Token}
use Rattle.dimacs_read.specs.declared.token.Token.TheVariants.{Literal, End}
use Rattle.dimacs_read.specs.Cnf.{AreLiterals, IsLiteral}
use Rattle.dimacs_read.specs.Tokens.{negated, plain, token_of}
use Rattle.pop_edge.specs.Words.{begins_with}
use Rattle.pop_instance.specs.Events.{FitVariables}
use Rattle.dimacs_read.specs.CnfText.{body, clauses_of}
use Rattle.dimacs_read.specs.Falsifying.{AreEventsOf, falsifier}
use Rattle.dimacs_read.specs.Grammar.{AreTokens}

-- no literal 0
abbrev pub IsSome : Option Token → Type 0
IsSome (Some (Literal l)) = 0 < nat_abs l
IsSome _ = ⊤

-- none of the words is a literal 0
abbrev pub AreSome : List (Option Token) → Type 0
AreSome [] = ⊤
AreSome (token ∷ tokens) = IsSome token × AreSome tokens

-- a number without a sign is no literal 0: it is an end where it is 0
plain_some : (n : ℕ) → IsSome (plain n)
plain_some n =
    (elim (nat_eq n 0) as (λ b. nat_eq n 0 ≡ b
    → IsSome (if b then Some End else if nat_lt n (2 ^ 31) then Some (Literal (pos n)) else None)) [
      | true ↦ λ is. tt
      | false ↦ λ isnt.
          let some : 0 < n = (let ne : n ≡ 0 → ⊥ = eqb-false n 0 isnt in omega arith) in
          elim (nat_lt n (2 ^ 31)) as
          (λ b. IsSome (if b then Some (Literal (pos n)) else None)) [ true ↦ some | false ↦ tt ]
    ]) refl

-- a number behind a sign is no literal 0
negated_some : (n : ℕ) → IsSome (negated n)
negated_some n =
    elim (nat_lt 0 n && nat_lt n (2 ^ 31)) as (λ b. IsSome (if b then Some (Literal (negsuc (n - 1))) else None)) [
      | true ↦ omega arith
      | false ↦ tt
    ]

-- what makes no literal 0 of a number makes none of a word that may be no number
then_some : (f : ℕ → Option Token) → ((n : ℕ) → IsSome (f n)) → (o : Option ℕ) → IsSome (option_and_then f o)
then_some f each None = tt
then_some f each (Some n) = each n

-- no word spells a literal 0
token_some : (word : List ℕ) → IsSome (token_of word)
token_some [] = tt
token_some (b ∷ bs) =
    elim (b == 45) as (λ t. IsSome (if t then option_and_then negated (number_of bs)
    else option_and_then plain (number_of (b ∷ bs)))) [
      | true ↦ then_some negated negated_some (number_of bs)
      | false ↦ then_some plain plain_some (number_of (b ∷ bs))
    ]

-- words behind one another have no literal 0 where neither have
some_append : (xs ys : List (Option Token)) → AreSome xs → AreSome ys → AreSome (xs ++ ys)
some_append [] ys h k = k
some_append (x ∷ xs) ys h k = (h.0, some_append xs ys h.1 k)

-- the words of a line have no literal 0
words_some : (line : ℕ) (words : List (List ℕ))
    → AreSome (map (λ (w : ℕ × Option Token). w.1) (map (λ (word : List ℕ). (line, token_of word)) words))
words_some line [] = tt
words_some line (word ∷ words) = (token_some word, words_some line words)

-- the words of all lines have no literal 0
lines_some : (lines : List (ℕ × List (List ℕ)))
    → AreSome (map (λ (w : ℕ × Option Token). w.1)
    (flat_map (λ (line : ℕ × List (List ℕ)). map (λ (word : List ℕ). (line.0, token_of word)) line.1) lines))
lines_some [] = tt
lines_some (line ∷ lines) =
    let words : ℕ × List (List ℕ) → List (ℕ × Option Token) =
    λ line'. map (λ (word : List ℕ). (line'.0, token_of word)) line'.1 in
    let whole : map (λ (w : ℕ × Option Token). w.1) (flat_map words (line ∷ lines))
    ≡ map (λ (w : ℕ × Option Token). w.1) (words line) ++ map (λ (w : ℕ × Option Token). w.1) (flat_map words lines) =
    ap (map (λ (w : ℕ × Option Token). w.1)) (flat_map-cons words line lines)
    ∙ map-append (λ (w : ℕ × Option Token). w.1) (words line) (flat_map words lines) in
    subst AreSome (sym whole) (some_append _ _ (words_some line.0 line.1) (lines_some lines))

-- a literal of a formula, put before the first clause, leaves clauses of its literals
onto_literals : (n : ℕ) (l : ℤ) (cs : List (List ℤ)) → IsLiteral n l → AreLiterals n cs
    → AreLiterals n (onto_first l cs)
onto_literals n l [] is all = All-cons (λ clause. All (IsLiteral n) clause) (l ∷ []) []
    (All-cons (IsLiteral n) l [] is (All-nil (IsLiteral n))) (All-nil (λ clause. All (IsLiteral n) clause))
onto_literals n l (c ∷ cs) is all =
    let P : List ℤ → Type 0 = λ clause. All (IsLiteral n) clause in
    All-cons P (l ∷ c) cs (All-cons (IsLiteral n) l c is (All-head P c cs all)) (All-tail P c cs all)

-- words of the grammar make clauses of literals of declared variables
pub clauses_literals : (n : ℕ) (tokens : List (Option Token)) → AreTokens n tokens → AreSome tokens
    → AreLiterals n (clauses_of tokens)
clauses_literals n [] h k = All-nil (λ clause. All (IsLiteral n) clause)
clauses_literals n (None ∷ tokens) h k = absurd h.0
clauses_literals n (Some End ∷ tokens) h k =
    All-cons (λ clause. All (IsLiteral n) clause) [] (clauses_of tokens) (All-nil (IsLiteral n))
    (clauses_literals n tokens h.1 k.1)
clauses_literals n (Some (Literal l) ∷ tokens) h k =
    onto_literals n l (clauses_of tokens) (record { some = k.0; below = h.0 }) (clauses_literals n tokens h.1 k.1)

-- the clauses of lines whose words are no fault
pub body_literals : (n : ℕ) (lines : List (ℕ × List (List ℕ))) → AreTokens n (map (λ word. word.1) (body lines))
    → AreLiterals n (clauses_of (map (λ word. word.1) (body lines)))
body_literals n lines tokens = clauses_literals n (map (λ word. word.1) (body lines)) tokens
    (lines_some (take_while (λ (line : ℕ × List (List ℕ)). not (begins_with 37 line.1)) lines))

-- what falsifies a literal is a value 0 or 1 of a declared variable
falsifier_fits : (n : ℕ) (l : ℤ) → IsLiteral n l → ((falsifier l).0 < n) × ((falsifier l).1 < 2)
falsifier_fits n (pos m) is = let some : 0 < m = is.some in let below : m ≤ n = is.below in (omega arith, omega arith)
falsifier_fits n (negsuc m) is = let below : suc m ≤ n = is.below in (omega arith, omega arith)

-- a pair that falsifies a literal of the clause is of a variable of the formula
member_fits : (n : ℕ) (clause : List ℤ) → All (IsLiteral n) clause → (p : ℕ × ℕ) → Contains (map falsifier clause) p
    → (p.0 < n) × (p.1 < 2)
member_fits n clause all p (k, within, same) =
    let size : length (map falsifier clause) ≡ length clause = length-map clause falsifier in
    let below : k < length clause = omega arith in
    let l : ℤ = get_or clause k (pos 1) in
    let is : falsifier l ≡ p = sym (get_or-map falsifier clause k (pos 1) p below) ∙ same in
    subst (λ (q : ℕ × ℕ). (q.0 < n) × (q.1 < 2)) is
    (falsifier_fits n l (All-get_or (IsLiteral n) clause k (pos 1) below all))

-- the events of clauses of so many variables
pub events_fit : (n : ℕ) (clauses : List (List ℤ)) (rows : List (ℕ × Cube)) → AreLiterals n clauses
    → AreEventsOf clauses rows → FitVariables n rows
events_fit n clauses rows literals events k d below =
    let r : ℕ × Cube = get_or rows k d in
    let has = ((events.exact r.0 r.1).0 (Contains-get_or rows k d below)).0 in
    let place = has.0 in
    let clause = has.1 in
    let at = has.3 in
    let all : All (IsLiteral n) clause =
    subst (λ c. All (IsLiteral n) c) (get_or_from_slice_get clauses place clause [] at)
    (All-get_or (λ c. All (IsLiteral n) c) clauses place [] (slice_get_within clauses place clause at) literals) in
    λ j d' below'. member_fits n clause all (get_or r.1 j d')
    ((has.4.same (get_or r.1 j d')).0 (Contains-get_or r.1 j d' below'))
