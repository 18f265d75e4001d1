-- The clauses once the text is at its end.
-- Literals behind the last end are one clause more, so that the ends, with the length of the list where it isn't an end
-- yet, cut the list into the clauses of all words. The first clause without literals is the first end that is the end
-- before it. What the clauses then say against the whole text, or which formula they are, is what the lines say.
use Rattle.std.proofs.Common.{◌≡◌, inl, inr, ℕ, suc, zero, ◌+◌, ◌-◌, ◌<◌, true, false, ℤ, nat_eq, if◌then◌else◌, List, [], ◌∷◌, ◌++◌, length, take, drop, get_or, slice_range, Option, None, Some, refl, sym, ap, ap₂, ◌∙◌, subst, arith, append-nil, length-take, length-drop}
use Rattle.std.proofs.lemmas.List.{take_rest, drop_all}
use Rattle.std.specs.List.{onto_first}
use Rattle.std.proofs.lemmas.Bool.{cases_Bool, eqb-true, eqb-false, ne_eqb, eq-eqb}
use Rattle.dimacs_read.specs.declared.clauses.Clauses.{Clauses}
use Rattle.dimacs_read.specs.declared.token.Token.{Token}
use Rattle.std.specs.Option.{option_map_or}
use Rattle.std.proofs.Common.{map, Result, Ok, Err}
use Rattle.dimacs_read.specs.Cnf.{Cnf}
use Rattle.pop_edge.specs.Refusals.{at_line}
use Rattle.pop_edge.specs.declared.refusal.ReadRefusal.{ReadRefusal}
use Rattle.pop_edge.specs.declared.refusal.ReadRefusal.TheVariants.{Malformed, Count, EmptyClause, Limit, ReadFault, OutOfMemory}
use Rattle.dimacs_read.specs.declared.reader.Reader.{Reader}
use Rattle.dimacs_read.specs.declared.header.Header.{Header}
use Rattle.dimacs_read.specs.CnfText.{clauses_of, body, header_fault, variables_in, clauses_in, whole_refusal, formula_in}
use Rattle.dimacs_read.specs.Cnf.{empty_in, first_empty}
use Rattle.pop_edge.proofs.RefusalsLemmas.{or_else_none, at_line_none}
use Rattle.dimacs_read.proofs.GrammarLaw.{declares, words_are}
use Rattle.dimacs_read.proofs.LiteralsLemmas.{body_literals}
use Rattle.dimacs_read.specs.Cnf.{AreLiterals}
use Rattle.dimacs_read.specs.Flat.{parts, Rises}
use Rattle.dimacs_read.specs.Reading.{last_end, with_begun, Holds, closed_ends, empty_from, Knows, IsReader, HasBounds, FinishesClauses, Finishes}
use Rattle.dimacs_read.proofs.TakenWords.{parts_push, rises_last, rises_push}

-- the last end is where the last part ends
pub last_at : (at k : ℕ) (ends : List ℕ) → suc k ≡ length ends → get_or ends k 0 ≡ last_end at ends
last_at at k [] h = absurd (omega arith)
last_at at zero (e ∷ []) h = refl
last_at at (suc k) (e ∷ []) h = absurd (omega arith)
last_at at zero (e ∷ f ∷ ends) h = absurd (omega arith)
last_at at (suc k) (e ∷ f ∷ ends) h = last_at e k (f ∷ ends) (omega arith)

-- literals behind which no word follows are a clause of their own
begun_alone : (ls : List ℤ) → 0 < length ls → with_begun ls [] ≡ ls ∷ []
begun_alone [] h = absurd (omega arith)
begun_alone (l ∷ []) h = refl
begun_alone (l ∷ k ∷ ls) h = ap (onto_first l) (begun_alone (k ∷ ls) (omega arith))

-- the clauses of all words are the parts, once the last has its end
pub closed_clauses : (c : Clauses) (tokens : List (Option Token)) → Holds c tokens
    → clauses_of tokens ≡ parts c.literals.items 0 (closed_ends (length c.literals.items) c.ends.items)
closed_clauses c tokens h =
    let literals : List ℤ = c.literals.items in
    let ends : List ℕ = c.ends.items in
    let last : ℕ = last_end 0 ends in
    let bound = (rises_last 0 ends (length literals) h.rises).0 in
    let all : clauses_of tokens ≡ parts literals 0 ends ++ with_begun (drop last literals) [] =
    ap clauses_of (sym (append-nil tokens)) ∙ h.clauses [] in
    elim (cases_Bool (nat_eq last (length literals))) [
      | inl e ↦ (let size : last ≡ length literals = eqb-true last (length literals) e in
          let none : drop last literals ≡ [] = drop_all last literals (omega arith) in
          all ∙ ap (λ ls. parts literals 0 ends ++ with_begun ls []) none ∙ append-nil (parts literals 0 ends)
          ∙ sym (ap (λ b. parts literals 0 (if b then ends else ends ++ length literals ∷ [])) e))
      | inr e ↦ (let ne : last ≡ length literals → ⊥ = eqb-false last (length literals) e in
          let some : 0 < length (drop last literals) = omega (arith, length-drop last literals, bound, ne) in
          all ∙ ap (λ cs. parts literals 0 ends ++ cs) (begun_alone (drop last literals) some)
          ∙ ap (λ ls. parts literals 0 ends ++ ls ∷ []) (sym (take_rest literals last))
          ∙ sym (parts_push literals 0 (length literals) ends)
          ∙ sym (ap (λ b. parts literals 0 (if b then ends else ends ++ length literals ∷ [])) e))
    ]

-- the ends still rise, with the last one
pub closed_rises : (ends : List ℕ) (size : ℕ) → Rises 0 ends size → Rises 0 (closed_ends size ends) size
closed_rises ends size r =
    elim (cases_Bool (nat_eq (last_end 0 ends) size)) [
      | inl e ↦ subst (λ b. Rises 0 (if b then ends else ends ++ size ∷ []) size) (sym e) r
      | inr e ↦ subst (λ b. Rises 0 (if b then ends else ends ++ size ∷ []) size) (sym e)
          (rises_push 0 ends size size r (omega arith))
    ]

-- a clause that has a literal isn't the first empty one
full : (n : ℕ) (c : List ℤ) (cs : List (List ℤ)) → 0 < length c → empty_in n (c ∷ cs) ≡ empty_in (n + 1) cs
full n [] cs h = absurd (omega arith)
full n (l ∷ ls) cs h = refl

-- the first clause without literals is the first part that ends where it begins
pub empty_same : (literals : List ℤ) (n at : ℕ) (ends : List ℕ) → Rises at ends (length literals)
    → empty_in n (parts literals at ends) ≡ empty_from n at ends
empty_same literals n at [] r = refl
empty_same literals n at (e ∷ ends) r =
    elim (cases_Bool (nat_eq at e)) [
      | inl t ↦ (let zero_size : e - at ≡ 0 = omega (arith, eqb-true at e t) in
          let none : slice_range literals at e ≡ [] = ap (λ k. take k (drop at literals)) zero_size in
          ap (λ c. empty_in n (c ∷ parts literals e ends)) none
          ∙ sym (ap (λ b. if b then Some n else empty_from (n + 1) e ends) t))
      | inr t ↦ (let ne : at ≡ e → ⊥ = eqb-false at e t in
          let bound = rises_last e ends (length literals) r.1 in
          let some : 0 < length (slice_range literals at e) =
          omega (
            arith,
            length-take (e - at) (drop at literals),
            length-drop at literals,
            bound.0,
            bound.1,
            r.0,
            ne,
          ) in
          full n (slice_range literals at e) (parts literals e ends) some ∙ empty_same literals (n + 1) e ends r.1
          ∙ sym (ap (λ b. if b then Some n else empty_from (n + 1) e ends) t))
    ]

-- the clauses by where they end
pub clauses_by : (c : Clauses) (ends : List ℕ) (size : ℕ) (tokens : List (Option Token)) → Holds c tokens
    → size ≡ length c.literals.items → ends ≡ closed_ends size c.ends.items
    → clauses_of tokens ≡ parts c.literals.items 0 ends
clauses_by c ends size tokens h e k = closed_clauses c tokens h
    ∙ ap (parts c.literals.items 0) (sym (k ∙ ap (λ n. closed_ends n c.ends.items) e))

-- the ends still rise once the last clause has its end
pub rises_by : (c : Clauses) (ends : List ℕ) (size : ℕ) → Rises 0 c.ends.items (length c.literals.items)
    → size ≡ length c.literals.items → ends ≡ closed_ends size c.ends.items → Rises 0 ends (length c.literals.items)
rises_by c ends size r e k =
    subst (λ es. Rises 0 es (length c.literals.items)) (sym (k ∙ ap (λ n. closed_ends n c.ends.items) e))
    (closed_rises c.ends.items (length c.literals.items) r)

-- the bounds of a reader that has a header
pub bounds_of : (r : Reader) (header : Header) → IsReader r → r.header ≡ Some header → HasBounds header r.clauses
bounds_of r header is e = by is.lines is.knows
  where
    by : (ls : List (ℕ × List (List ℕ))) → Knows r ls → HasBounds header r.clauses
    by [] k = absurd (let no_header : ◌≡◌ {A = Option Header} None (Some header) = sym k.is ∙ e in cc)
    by (h ∷ ls) k =
        let same : k.fields ≡ header = let x : Some k.fields ≡ Some header = sym k.is ∙ e in cc in
        let d = declares h.1 (at_line_none h.0 (header_fault h.1)
        (or_else_none (at_line h.0 (header_fault h.1)) _ k.clean).0) in
        let v : variables_in h.1 ≡ header.variables = ap (λ o. option_map_or (λ x. x.0) o 0) k.declares
        ∙ ap (λ f. f.variables) same in
        let c : clauses_in h.1 ≡ header.clauses = ap (λ o. option_map_or (λ x. x.1) o 0) k.declares
        ∙ ap (λ f. f.clauses) same in
        let clean = (or_else_none (at_line h.0 (header_fault h.1)) _ k.clean).1 in
        let tokens : List (Option Token) = map (λ word. word.1) (body ls) in
        let of_header : AreLiterals (variables_in h.1) (clauses_of tokens) =
        body_literals (variables_in h.1) ls (words_are (variables_in h.1) [] (body ls) clean (omega arith)).0 in
        let literals : AreLiterals header.variables
        (parts r.clauses.literals.items 0 (closed_ends (length r.clauses.literals.items) r.clauses.ends.items)) =
        subst (AreLiterals header.variables) (closed_clauses r.clauses tokens k.holds)
        (subst (λ n. AreLiterals n (clauses_of tokens)) v of_header) in
        record {
          variables = omega (arith, v, d.variables_fit);
          clauses = omega (arith, c, d.clauses_fit);
          few =
              k.holds.few;
          room = k.holds.room;
          rises = k.holds.rises;
          literals = literals;
        }

-- what the clauses say is what the lines say
pub finish_of : (r : Reader) (header : Header) (line : ℕ) (ls : List (ℕ × List (List ℕ)))
    (result : Result Cnf ReadRefusal) → Knows r ls → r.header ≡ Some header
    → ((tokens : List (Option Token)) → Holds r.clauses tokens → FinishesClauses header (clauses_of tokens) result)
    → Finishes line ls result
finish_of r header line [] result k e f =
    absurd (let no_header : ◌≡◌ {A = Option Header} None (Some header) = sym k.is ∙ e in cc)
finish_of r header line (h ∷ ls) result k e f = by result (f (map (λ word. word.1) (body ls)) k.holds)
  where
    same : k.fields ≡ header
    same = let x : Some k.fields ≡ Some header = sym k.is ∙ e in cc

    v : variables_in h.1 ≡ header.variables
    v = ap (λ o. option_map_or (λ x. x.0) o 0) k.declares ∙ ap (λ g. g.variables) same

    c : clauses_in h.1 ≡ header.clauses
    c = ap (λ o. option_map_or (λ x. x.1) o 0) k.declares ∙ ap (λ g. g.clauses) same

    found : List (List ℤ)
    found = clauses_of (map (λ word. word.1) (body ls))

    good : header.clauses ≡ length (clauses_of (map (λ word. word.1) (body ls))) → whole_refusal line (h ∷ ls) ≡ None
    good g = let t : nat_eq (clauses_in h.1) (length (clauses_of (map (λ word. word.1) (body ls)))) ≡ true =
        eq-eqb _ _ (c ∙ g) in rw t refl

    formula : formula_in (h ∷ ls)
        ≡ record { variables = header.variables; clauses = clauses_of (map (λ word. word.1) (body ls)) }
    formula = ap (λ n. let g : Cnf = record { variables = n; clauses = clauses_of (map (λ word. word.1) (body ls)) } in
        g) v

    by : (x : Result Cnf ReadRefusal) → FinishesClauses header (clauses_of (map (λ word. word.1) (body ls))) x
        → Finishes line (h ∷ ls) x
    by (Ok g) t = (good t.0, t.1 ∙ sym formula, t.2)
    by (Err (Count a b)) t =
        let w : nat_eq (clauses_in h.1) (length (clauses_of (map (λ word. word.1) (body ls)))) ≡ false =
        ne_eqb _ _ (λ x. t.0 (sym c ∙ x)) in
        rw w (ap₂ (λ m n. Some (Count m n)) (c ∙ sym t.1) (sym t.2))
    by (Err (EmptyClause n)) t = (good t.0, (t.1.0, t.1.1, ap first_empty formula ∙ t.1.2))
    by (Err OutOfMemory) t = tt
    by (Err ReadFault) t = absurd t
    by (Err (Malformed a b)) t = absurd t
    by (Err (Limit a b)) t = absurd t

-- the literals once the last clause has its end
pub literals_by : (n : ℕ) (c : Clauses) (ends : List ℕ) (size : ℕ)
    → AreLiterals n (parts c.literals.items 0 (closed_ends (length c.literals.items) c.ends.items))
    → size ≡ length c.literals.items → ends ≡ closed_ends size c.ends.items
    → AreLiterals n (parts c.literals.items 0 ends)
literals_by n c ends size all e k =
    subst (λ es. AreLiterals n (parts c.literals.items 0 es)) (sym (k ∙ ap (λ m. closed_ends m c.ends.items) e)) all
