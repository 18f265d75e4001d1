-- The tokens of an assignment: each is the literal of a variable by its current value, and a literal that is not false
-- is its variable's token.
use Rattle.std.proofs.Common.{inl, inr, ◌≡◌, ℕ, suc, ◌+◌, ◌-◌, ◌<◌, ◌≤◌, cond, pos, negsuc, ℤ, List, ◌∷◌, length, decimal, get_or, Some, slice_get, ap, ◌∙◌, arith, eq-eqb, ne_eqb, Contains}
use Rattle.std.specs.Fmt.{signed_decimal}
use Rattle.std.proofs.lemmas.Bool.{cases_eq}
use Rattle.std.proofs.lemmas.Option.{slice_get-get_or}
use Rattle.pop_model.specs.Stacks.{StackTable, value_at}
use Rattle.pop_model.specs.Popping.{cursor, values_at}
use Rattle.pop_model.proofs.ValuesLemmas.{length-values_at, value-values_at}
use Rattle.dimacs_read.specs.Cnf.{IsLiteral}
use Rattle.dimacs_read.specs.Falsifying.{falsifier}
use Rattle.pop_print.specs.Output.{literal_of, literals_of}
use Rattle.pop_print.proofs.OutputLemmas.{length-literals_of, literal_at}
use Rattle.printed_samples.specs.Assignments.{AreLiteralsOf}

-- the words at cursors
abbrev pub words_at : StackTable → List ℕ → List (List ℕ)
words_at s c = literals_of (values_at s c)

-- one for each cursor
pub length-words_at : (s : StackTable) (c : List ℕ) → length (words_at s c) ≡ length c
length-words_at s c = length-literals_of (values_at s c) ∙ length-values_at s c

-- the word of a variable
pub word_there : (s : StackTable) (c : List ℕ) (v : ℕ) (d : List ℕ) → v < length c
    → get_or (words_at s c) v d ≡ literal_of v (value_at s v (cursor c v))
word_there s c v d below =
    literal_at (values_at s c) v d (omega (arith, length-values_at s c, below))
    ∙ ap (literal_of v) (value-values_at s c v below)

-- it is among them
pub word_among : (s : StackTable) (c : List ℕ) (v : ℕ) → v < length c
    → Contains (words_at s c) (literal_of v (value_at s v (cursor c v)))
word_among s c v below = (
  v,
  omega (arith, length-words_at s c, below),
  word_there s c v (literal_of v (value_at s v (cursor c v))) below,
)

-- they are literals of the variables
pub are_literals : (s : StackTable) (c : List ℕ) → AreLiteralsOf (length c) (words_at s c)
are_literals s c = record {
  count = length-words_at s c;
  each = λ v below.
      let x = value_at s v (cursor c v) in
      let here : slice_get (words_at s c) v ≡ Some (literal_of v x) =
      slice_get-get_or (words_at s c) v (literal_of v x) (omega (arith, length-words_at s c, below))
      ∙ ap (λ w. Some w) (word_there s c v (literal_of v x) below) in
      elim (cases_eq x 0) [
        | inl is ↦ inr (here ∙ ap (λ b. Some (cond b (45 ∷ decimal (v + 1)) (decimal (v + 1)))) (eq-eqb x 0 is))
        | inr isnt ↦ inl (here ∙ ap (λ b. Some (cond b (45 ∷ decimal (v + 1)) (decimal (v + 1)))) (ne_eqb x 0 isnt))
      ];
}

-- a literal that isn't false is its variable's word
pub literal_is : (n x : ℕ) (l : ℤ) → IsLiteral n l → x < 2 → (x ≡ (falsifier l).1 → ⊥)
    → literal_of (falsifier l).0 x ≡ signed_decimal l
literal_is n x (pos m) is small isnt =
    let some : 0 < m = is.some in
    ap (λ b. cond b (45 ∷ decimal (m - 1 + 1)) (decimal (m - 1 + 1))) (ne_eqb x 0 isnt)
    ∙ ap decimal (omega (arith, some))
literal_is n x (negsuc m) is small isnt =
    let zero : x ≡ 0 = omega (arith, small, isnt) in
    ap (λ b. cond b (45 ∷ decimal (m + 1)) (decimal (m + 1))) (eq-eqb x 0 zero)
    ∙ ap (λ k. 45 ∷ decimal k) (omega arith)

-- its variable is one of the formula's
pub falsifier_below : (n : ℕ) (l : ℤ) → IsLiteral n l → (falsifier l).0 < n
falsifier_below n (pos m) is = let some : 0 < m = is.some in let below : m ≤ n = is.below in omega arith
falsifier_below n (negsuc m) is = let below : suc m ≤ n = is.below in omega arith
