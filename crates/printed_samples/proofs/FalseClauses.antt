-- A clause's event occurs if and only if each of its literals is false. Clauses with the same literals have one event,
-- under the number of the first, since a literal is determined by the pair that falsifies it.
use Rattle.std.proofs.Common.{◌≡◌, ℕ, suc, ◌<◌, ℤ, pos, negsuc, List, [], ◌∷◌, length, map, get_or, slice_index, slice_get, None, Some, sym, ap, subst, ◌∙◌, arith, All, Contains, refl}
use Rattle.std.proofs.lemmas.List.Elements.{All-contains, Contains-get_or}
use Rattle.std.proofs.lemmas.Option.{slice_get_within, get_or_from_slice_get}
use Rattle.pop_model.specs.Stacks.{StackTable, value_at}
use Rattle.pop_model.specs.Popping.{Cube, cursor, values_at, Occurs, current}
use Rattle.pop_model.specs.Families.{Event, IsEvent}
use Rattle.pop_model.specs.Families.Family.{Listed}
use Rattle.pop_model.proofs.ValuesLemmas.{value-values_at}
use Rattle.graph_read.proofs.Numbering.{contains_map, contains_map_from}
use Rattle.dimacs_read.specs.Cnf.{Cnf, AreLiterals, IsLiteral, first_empty}
use Rattle.dimacs_read.specs.Falsifying.{AreEventsOf, Falsifies, falsifier}
use Rattle.pop_instance.specs.Events.{event_number}
use Rattle.pop_print.specs.declared.facts.Facts.TheVariants.{Formula}
use Rattle.printed_samples.specs.Stuck.{AreAlike, IsFalseAt, IsFalseClause}
use Rattle.printed_samples.specs.Laws.{instance_over, PrintedFalse}
use Rattle.printed_samples.proofs.Literals.{falsifier_below}
use Rattle.printed_samples.proofs.Satisfied.{current_cube, false_occurs, not_empty}
use Rattle.printed_samples.proofs.StuckNumbers.{IsNamed, are_stuck, number_there, row_event, event_row, numbers_rise}

-- a literal is determined by the pair that falsifies it
one_falsifier : (n : ℕ) (l m : ℤ) → IsLiteral n l → IsLiteral n m → falsifier l ≡ falsifier m → l ≡ m
one_falsifier n (pos a) (pos b) is_l is_m same =
    let some_a : 0 < a = is_l.some in
    let some_b : 0 < b = is_m.some in
    let first = ap (λ (p : ℕ × ℕ). p.0) same in
    let equal : a ≡ b = omega (arith, some_a, some_b, first) in
    ap pos equal
one_falsifier n (pos a) (negsuc b) is_l is_m same =
    let second = ap (λ (p : ℕ × ℕ). p.1) same in absurd (omega (arith, second))
one_falsifier n (negsuc a) (pos b) is_l is_m same =
    let second = ap (λ (p : ℕ × ℕ). p.1) same in absurd (omega (arith, second))
one_falsifier n (negsuc a) (negsuc b) is_l is_m same =
    let first = ap (λ (p : ℕ × ℕ). p.0) same in
    let equal : a ≡ b = omega (arith, first) in
    ap negsuc equal

-- the literals of clauses with one cube are alike
half_alike : (n : ℕ) (clause other : List ℤ) (e : Cube) → All (IsLiteral n) clause → All (IsLiteral n) other
    → Falsifies clause e → Falsifies other e → (l : ℤ) → Contains clause l → Contains other l
half_alike n clause other e literals others is is_other l has =
    let pair : Contains e (falsifier l) =
    (is.same (falsifier l)).1 (contains_map falsifier clause l has) in
    let (m, inside, same) = contains_map_from falsifier other (pos 0) (falsifier l)
    ((is_other.same (falsifier l)).0 pair) in
    let equal : m ≡ l =
    one_falsifier n m l (All-contains (IsLiteral n) other m others inside)
    (All-contains (IsLiteral n) clause l literals has)
    same in
    subst (Contains other) equal inside

-- clauses that are alike have one cube
half_pairs : (clause other : List ℤ) → ((l : ℤ) → Contains clause l → Contains other l) → (p : ℕ × ℕ)
    → Contains (map falsifier clause) p → Contains (map falsifier other) p
half_pairs clause other alike p has =
    let (l, inside, is) = contains_map_from falsifier clause (pos 0) p has in
    subst (Contains (map falsifier other)) is (contains_map falsifier other l (alike l inside))

-- so a cube falsifies both or none
alike_falsifies : (clause other : List ℤ) (e : Cube) → AreAlike other clause → Falsifies clause e → Falsifies other e
alike_falsifies clause other e alike is = record {
  cube = is.cube;
  same = λ p. (
    λ has. half_pairs clause other (λ l. (alike l).1) p ((is.same p).0 has),
    λ has. (is.same p).1 (half_pairs other clause (λ l. (alike l).0) p has),
  );
}

module _ (f : Cnf) (events : List (ℕ × Cube)) (s : StackTable) (c : List ℕ)
    (literals : AreLiterals f.variables f.clauses)
    (full : first_empty f ≡ None) (are : AreEventsOf f.clauses events) (size : length c ≡ f.variables) where
  -- the literals of a clause at a place
  of_place : (k : ℕ) (clause : List ℤ) → slice_get f.clauses k ≡ Some clause → All (IsLiteral f.variables) clause
  of_place k clause at =
      All-contains (All (IsLiteral f.variables)) f.clauses clause literals (clause_row k clause at)
    where
      clause_row : (k : ℕ) (clause : List ℤ) → slice_get f.clauses k ≡ Some clause → Contains f.clauses clause
      clause_row k clause at =
          (k, slice_get_within f.clauses k clause at, get_or_from_slice_get f.clauses k clause clause at)

  -- the value of a literal's variable is the current one
  value_is : (l : ℤ) → IsLiteral f.variables l
      → slice_index (values_at s c) (falsifier l).0 ≡ current s c (falsifier l).0
  value_is l is = value-values_at s c (falsifier l).0 (omega (arith, size, falsifier_below f.variables l is))

  -- where the cube of a clause occurs, each of its literals is false
  false_there : (clause : List ℤ) (e : Cube) → All (IsLiteral f.variables) clause → Falsifies clause e → Occurs s c e
      → IsFalseAt (values_at s c) clause
  false_there clause e are_literals is occurs k d within =
      let l : ℤ = get_or clause k d in
      let has : Contains clause l = Contains-get_or clause k d within in
      value_is l (are_literals k d within)
      ∙ All-contains (λ (p : ℕ × ℕ). value_at s p.0 (cursor c p.0) ≡ p.1) e (falsifier l) occurs
      ((is.same (falsifier l)).1 (contains_map falsifier clause l has))

  -- an event that occurs is that of a clause that is false, the first of those that are alike
  there : (e : Event) → IsEvent (Listed events) e → Occurs s c e.cube
      → IsFalseClause f (values_at s c) (event_number events e.unit ∷ [])
  there e (n, at) occurs =
      let (has, least) = (are.exact n e.cube).0 (event_row events e.unit n e.cube at) in
      let (k, clause, number, at_k, is) = has in
      record {
        place = k;
        clause = clause;
        clause_is = at_k;
        numbers_are = ap (λ (m : ℕ). m ∷ []) (number_there events e.unit n e.cube at ∙ number);
        false = false_there clause e.cube (of_place k clause at_k) is occurs;
        first = λ j other before at_j alike.
            least (suc j) (omega (arith, number, before))
            (j, other, refl, at_j, alike_falsifies clause other e.cube alike is);
      }

  -- and each such clause has an event that occurs
  back : (numbers : List ℕ) → IsFalseClause f (values_at s c) numbers
      → IsNamed (Formula f.variables) (instance_over s events) c numbers
  back numbers is =
      let clause = is.clause in
      let own = of_place is.place clause is.clause_is in
      let (cube, occurs) =
      false_occurs f.variables s c clause own (not_empty 0 f.clauses is.place clause full is.clause_is)
      (λ l (k, within, at).
      let here : IsLiteral f.variables l = All-contains (IsLiteral f.variables) clause l own (k, within, at) in
      sym (value_is l here)
      ∙ subst (λ (m : ℤ). slice_index (values_at s c) (falsifier m).0 ≡ (falsifier m).1) at (is.false k l within)) in
      let e : Cube = current_cube s c f.variables clause in
      let row : Contains events (suc is.place, e) =
      (are.exact (suc is.place) e).1 (
        (is.place, clause, refl, is.clause_is, cube),
        λ m before (j, other, number, at_j, falsifies).
            is.first j other (omega (arith, number, before)) at_j (λ l. (
              half_alike f.variables other clause e (of_place j other at_j) own falsifies cube l,
              half_alike f.variables clause other e own (of_place j other at_j) cube falsifies l,
            )),
      ) in
      let (u, at_u) = row_event events (suc is.place) e row in
      record {
        event = record { unit = u; cube = e };
        event_is = (suc is.place, at_u);
        occurs = occurs;
        numbers_are = ap (λ (m : ℕ). m ∷ []) (number_there events u (suc is.place) e at_u) ∙ sym is.numbers_are;
      }

-- the law
pub printed_false : PrintedFalse
printed_false f events s c stuck literals full are size list some =
    are_stuck (Formula f.variables) (instance_over s events) c stuck (IsFalseClause f (values_at s c))
    (record {
      rise = numbers_rise events are.rising;
      there = there f events s c literals full are size;
      back = back f events s c literals full are size;
    })
    list some
