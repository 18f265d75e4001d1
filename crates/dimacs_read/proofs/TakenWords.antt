-- A word more among the clauses. The clauses hold the words so far if, whatever words follow, the clauses of all are
-- the closed parts, and then those of the words that follow, with the open literals put before the first. An end closes
-- the open part, and a literal makes it longer; both keep this. A word is at fault by the counts of ends and literals
-- alone, so the first bad word of a line is found while its words are taken.
use Rattle.std.proofs.Common.{◌≡◌, ℕ, ◌-◌, ◌<◌, ◌≤◌, ◌^◌, ℤ, List, [], ◌∷◌, ◌++◌, length, map, take, drop, slice_range, count_by, Option, None, Some, refl, sym, ap, ap₂, ◌∙◌, subst, arith, append_assoc, length-append, length-drop}
use Rattle.std.specs.List.{onto_first}
use Rattle.std.proofs.lemmas.List.{take_rest, drop_all, drop-append-le, take-append-le}
use Rattle.std.proofs.lemmas.Bool.{ltb-true}
use Rattle.pop_edge.specs.Refusals.{or_else, at_line, first_refusal}
use Rattle.pop_edge.specs.Words.{words_of}
use Rattle.dimacs_read.specs.declared.clauses.Clauses.{Clauses}
use Rattle.dimacs_read.specs.declared.token.Token.{Token}
use Rattle.dimacs_read.specs.declared.token.Token.TheVariants.{Literal, End}
use Rattle.dimacs_read.specs.Tokens.{token_of, is_literal, is_clause_end}
use Rattle.dimacs_read.specs.CnfText.{token_fault, clauses_of}
use Rattle.dimacs_read.specs.Flat.{parts, Rises}
use Rattle.dimacs_read.specs.Reading.{word_fault, Adds, fault_in, last_end, with_begun, Holds, placed, Goes}
use Rattle.pop_edge.proofs.RefusalsLemmas.{chosen_else, chosen_some}
use Rattle.dimacs_read.proofs.GrammarLaw.{count_more}

-- the end that was added is the last
pub last_push : (at end : ℕ) (ends : List ℕ) → last_end at (ends ++ end ∷ []) ≡ end
last_push at end [] = refl
last_push at end (e ∷ ends) = last_push e end ends

-- an end more is a part more
pub parts_push : (literals : List ℤ) (at end : ℕ) (ends : List ℕ)
    → parts literals at (ends ++ end ∷ []) ≡ parts literals at ends ++ slice_range literals (last_end at ends) end ∷ []
parts_push literals at end [] = refl
parts_push literals at end (e ∷ ends) = ap (λ ps. slice_range literals at e ∷ ps) (parts_push literals e end ends)

-- the last end is within the list
pub rises_last : (at : ℕ) (ends : List ℕ) (last : ℕ) → Rises at ends last
    → (last_end at ends ≤ last) × (at ≤ last_end at ends)
rises_last at [] last r = (r, omega arith)
rises_last at (e ∷ ends) last r = let p = rises_last e ends last r.1 in (p.0, omega (arith, p.1, r.0))

-- the ends rise, with one more at the end of the list
pub rises_push : (at : ℕ) (ends : List ℕ) (last more : ℕ) → Rises at ends last → last ≤ more
    → Rises at (ends ++ last ∷ []) more
rises_push at [] last more r h = (r, h)
rises_push at (e ∷ ends) last more r h = (r.0, rises_push e ends last more r.1 h)

-- the ends rise in a longer list
pub rises_on : (at : ℕ) (ends : List ℕ) (last more : ℕ) → Rises at ends last → last ≤ more → Rises at ends more
rises_on at [] last more r h = omega (arith, r)
rises_on at (e ∷ ends) last more r h = (r.0, rises_on e ends last more r.1 h)

-- what stands behind the last end changes no part
pub parts_more : (literals more : List ℤ) (at : ℕ) (ends : List ℕ) → Rises at ends (length literals)
    → parts (literals ++ more) at ends ≡ parts literals at ends
parts_more literals more at [] r = refl
parts_more literals more at (e ∷ ends) r =
    let within : e ≤ length literals =
    omega (arith, (rises_last e ends (length literals) r.1).0, (rises_last e ends (length literals) r.1).1) in
    let from : at ≤ length literals = omega (arith, r.0) in
    let same : slice_range (literals ++ more) at e ≡ slice_range literals at e =
    ap (take (e - at)) (drop-append-le at literals more from)
    ∙ take-append-le (e - at) (drop at literals) more (omega (arith, length-drop at literals)) in
    ap₂ (λ p ps. p ∷ ps) same (parts_more literals more e ends r.1)

-- a literal more of the clause that is open
pub begun_more : (ls : List ℤ) (l : ℤ) (cs : List (List ℤ))
    → with_begun (ls ++ l ∷ []) cs ≡ with_begun ls (onto_first l cs)
begun_more [] l cs = refl
begun_more (k ∷ ls) l cs = ap (onto_first k) (begun_more ls l cs)

-- an end closes the clause that is open
pub begun_closed : (ls : List ℤ) (cs : List (List ℤ)) → with_begun ls ([] ∷ cs) ≡ ls ∷ cs
begun_closed [] cs = refl
begun_closed (l ∷ ls) cs = ap (onto_first l) (begun_closed ls cs)

-- an end that is no fault has room among the ends
end_fits : (v ends literals : ℕ) → word_fault v ends literals (Some End) ≡ None → ends < 2 ^ 22
end_fits v ends literals h = ltb-true ends (2 ^ 22) (chosen_some _ _ _ h).0

-- a literal that is no fault has room among the literals
literal_fits : (v ends literals : ℕ) (l : ℤ) → word_fault v ends literals (Some (Literal l)) ≡ None → literals < 2 ^ 25
literal_fits v ends literals l h =
    let one = chosen_else _ _ _ h in
    let two = chosen_some _ _ _ one.1 in
    ltb-true literals (2 ^ 25) (chosen_some _ _ _ two.1).0

-- the clauses hold an end more, which closes the one that is open
pub holds_end : (a b : Clauses) (tokens : List (Option Token)) → Holds a tokens → length a.ends.items < 2 ^ 22
    → Adds a b (Some End) → Holds b (tokens ++ Some End ∷ [])
holds_end a b tokens h few add =
    let literals : List ℤ = a.literals.items in
    let ends : List ℕ = a.ends.items in
    let last : ℕ = last_end 0 ends in
    record {
      ends = omega (
        arith,
        count_more is_clause_end tokens (Some End),
        h.ends,
        ap length add.0,
        length-append ends (length literals ∷ []),
      );
      literals = omega (arith, count_more is_literal tokens (Some End), h.literals, ap length add.1);
      rises = subst (λ xs. Rises 0 b.ends.items (length xs)) (sym add.1)
          (subst (λ es. Rises 0 es (length literals)) (sym add.0)
          (rises_push 0 ends (length literals) (length literals) h.rises (omega arith)));
      few = omega (arith, few, ap length add.0, length-append ends (length literals ∷ []));
      room = omega (arith, h.room, ap length add.1);
      clauses = λ more.
          ap clauses_of (append_assoc tokens (Some End ∷ []) more) ∙ h.clauses (Some End ∷ more)
          ∙ ap (λ cs. parts literals 0 ends ++ cs) (begun_closed (drop last literals) (clauses_of more))
          ∙ sym (append_assoc (parts literals 0 ends) (drop last literals ∷ []) (clauses_of more))
          ∙ ap (λ p. (parts literals 0 ends ++ p ∷ []) ++ clauses_of more) (sym (take_rest literals last))
          ∙ ap (λ ps. ps ++ clauses_of more) (sym (parts_push literals 0 (length literals) ends))
          ∙ ap (λ ls. parts literals 0 (ends ++ length literals ∷ []) ++ with_begun ls (clauses_of more))
          (sym (ap (λ n. drop n literals) (last_push 0 (length literals) ends)
          ∙ drop_all (length literals) literals (omega arith)))
          ∙ ap₂ (λ es ls. parts ls 0 es ++ with_begun (drop (last_end 0 es) ls) (clauses_of more)) (sym add.0)
          (sym add.1);
    }

-- the clauses hold a literal more, in the one that is open
pub holds_literal : (a b : Clauses) (tokens : List (Option Token)) (l : ℤ) → Holds a tokens
    → length a.literals.items < 2 ^ 25 → Adds a b (Some (Literal l)) → Holds b (tokens ++ Some (Literal l) ∷ [])
holds_literal a b tokens l h room add =
    let literals : List ℤ = a.literals.items in
    let ends : List ℕ = a.ends.items in
    let last : ℕ = last_end 0 ends in
    let size = length-append literals (l ∷ []) in
    record {
      ends = omega (arith, count_more is_clause_end tokens (Some (Literal l)), h.ends, ap length add.0);
      literals = omega (arith, count_more is_literal tokens (Some (Literal l)), h.literals, ap length add.1, size);
      rises = subst (λ xs. Rises 0 b.ends.items (length xs)) (sym add.1)
          (subst (λ es. Rises 0 es (length (literals ++ l ∷ []))) (sym add.0)
          (rises_on 0 ends (length literals) (length (literals ++ l ∷ [])) h.rises (omega (arith, size))));
      few = omega (arith, h.few, ap length add.0);
      room = omega (arith, room, ap length add.1, size);
      clauses = λ more.
          ap clauses_of (append_assoc tokens (Some (Literal l) ∷ []) more) ∙ h.clauses (Some (Literal l) ∷ more)
          ∙ ap (λ cs. parts literals 0 ends ++ cs) (sym (begun_more (drop last literals) l (clauses_of more)))
          ∙ ap₂ (λ ps ls. ps ++ with_begun ls (clauses_of more)) (sym (parts_more literals (l ∷ []) 0 ends h.rises))
          (sym (drop-append-le last literals (l ∷ []) (rises_last 0 ends (length literals) h.rises).0))
          ∙ ap₂ (λ es ls. parts ls 0 es ++ with_begun (drop (last_end 0 es) ls) (clauses_of more)) (sym add.0)
          (sym add.1);
    }

-- the clauses hold one word more
pub holds_more : (a b : Clauses) (tokens : List (Option Token)) (v : ℕ) (t : Option Token) → Holds a tokens
    → word_fault v (length a.ends.items) (length a.literals.items) t ≡ None → Adds a b t → Holds b (tokens ++ t ∷ [])
holds_more a b tokens v None h fault add = absurd add
holds_more a b tokens v (Some End) h fault add =
    holds_end a b tokens h (end_fits v (length a.ends.items) (length a.literals.items) fault) add
holds_more a b tokens v (Some (Literal l)) h fault add =
    holds_literal a b tokens l h (literal_fits v (length a.ends.items) (length a.literals.items) l fault) add

-- the fault of a word goes by the counts alone
fault_by_counts : (v : ℕ) (before : List (Option Token)) (t : Option Token)
    → token_fault v before t ≡ word_fault v (count_by is_clause_end before) (count_by is_literal before) t
fault_by_counts v before None = refl
fault_by_counts v before (Some End) = refl
fault_by_counts v before (Some (Literal l)) = refl

-- the fault of a word, by how many clauses and literals there are
pub fault_of_word : (a : Clauses) (tokens : List (Option Token)) (v : ℕ) (t : Option Token) → Holds a tokens
    → token_fault v tokens t ≡ word_fault v (length a.ends.items) (length a.literals.items) t
fault_of_word a tokens v t h = fault_by_counts v tokens t ∙ ap₂ (λ m n. word_fault v m n t) h.ends h.literals

-- a word more
pub goes_on : (a b : Clauses) (v line : ℕ) (bytes rest word behind : List ℕ) (before : List (Option Token))
    → Goes a v line bytes rest before → words_of rest ≡ word ∷ words_of behind
    → fault_in a v word ≡ None → Adds a b (token_of word) → Goes b v line bytes behind before
goes_on a b v line bytes rest word behind before g cut fault add =
    let t : Option Token = token_of word in
    let none : token_fault v g.done t ≡ None = fault_of_word a g.done v t g.holds ∙ fault in
    record {
      done = g.done ++ t ∷ [];
      holds = holds_more a b g.done v t g.holds fault add;
      all = append_assoc g.done (t ∷ []) (map token_of (words_of behind))
          ∙ ap (λ ws. g.done ++ map token_of ws) (sym cut) ∙ g.all;
      refusal = sym (ap (λ ws. first_refusal (token_fault v) g.done (map (λ w. (line, token_of w)) ws)) cut
          ∙ ap (λ f. or_else (at_line line f)
          (first_refusal (token_fault v) (g.done ++ t ∷ []) (placed line behind))) none) ∙ g.refusal;
    }
