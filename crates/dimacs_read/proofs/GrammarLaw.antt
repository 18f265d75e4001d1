-- A text has no refusal exactly where it is in the grammar, and then its formula is the one of the grammar. One way,
-- each part of the refusal is none: so the header declares what the grammar asks, each word is one of the grammar, and
-- the counts agree. The other way, each word of the grammar stands within the limits, since the clauses and literals
-- before it are some of those that the whole text has; so none is at fault, and neither is the whole.
use Rattle.std.proofs.Common.{◌≡◌, ℕ, ◌+◌, ◌<◌, ◌≤◌, ◌^◌, Bool, true, false, cond, List, [], ◌∷◌, ◌++◌, length, count_by, nat_lt, nat_eq, nat_abs, ℤ, Option, None, Some, refl, sym, ap, ap₂, ◌∙◌, subst, arith, append_assoc, append-nil}
use Rattle.std.specs.List.{onto_first}
use Rattle.std.specs.Option.{option_map_or}
use Rattle.std.proofs.lemmas.List.Sums.{sum_by-append, sum_by-cons}
use Rattle.std.proofs.lemmas.Bool.{ltb-true, ltb-false, le-ltb, lt-ltb, eq-eqb, eqb-true}
use Rattle.pop_edge.specs.declared.refusal.ReadRefusal.{ReadRefusal}
use Rattle.pop_edge.specs.Refusals.{Fault, or_else, at_line, first_refusal}
use Rattle.pop_edge.specs.Lines.{text_limit, lines_of}
use Rattle.dimacs_read.specs.Cnf.{Cnf}
use Rattle.dimacs_read.specs.CnfText.{cnf, token_fault, clauses_of, cnf_lines, declared, variables_in, clauses_in, header_fault, body, line_refusal, formula_in, whole_refusal, cnf_refusal, cnf_of}
use Rattle.dimacs_read.specs.Tokens.{is_literal, is_clause_end}
use Rattle.dimacs_read.specs.Laws.{AcceptsExactly, HasOneFormula}
use Rattle.dimacs_read.specs.declared.token.Token.{Token}
use Rattle.dimacs_read.specs.declared.token.Token.TheVariants.{Literal, End}
use Rattle.dimacs_read.specs.Grammar.{IsToken, AreTokens, IsCnfText}
use Rattle.pop_edge.proofs.RefusalsLemmas.{items, or_else_none, at_line_none, chosen_none, chosen_some, chosen_else}
use Rattle.pop_edge.proofs.AcceptedTexts.{accepted, not_refused}

-- how many of them, with one more
pub count_more : (p : Option Token → Bool) (before : List (Option Token)) (t : Option Token)
    → count_by p (before ++ t ∷ []) ≡ count_by p before + cond (p t) 1 0
count_more p before t = sum_by-append (λ x. cond (p x) 1 0) before (t ∷ []) ∙ omega arith

-- what a word without a fault is
word_is : (v : ℕ) (before : List (Option Token)) (t : Option Token) → token_fault v before t ≡ None
    → count_by is_literal before ≤ 2 ^ 25
    → IsToken v t × (count_by is_literal (before ++ t ∷ []) ≤ 2 ^ 25)
word_is v before None h k = absurd (cc)
word_is v before (Some End) h k = (tt, omega (arith, count_more is_literal before (Some End)))
word_is v before (Some (Literal l)) h k =
    let first = chosen_else _ _ _ h in
    let second = chosen_some _ _ _ first.1 in
    let third = chosen_some _ _ _ second.1 in (
      ltb-false v (nat_abs l) first.0,
      omega (
        arith,
        count_more is_literal before (Some (Literal l)),
        ltb-true (count_by is_literal before) (2 ^ 25) third.0,
      ),
    )

-- words that aren't refused are words of the grammar, with no more literals than may be
pub words_are : (v : ℕ) (before : List (Option Token)) (xs : List (ℕ × Option Token))
    → first_refusal (token_fault v) before xs ≡ None → count_by is_literal before ≤ 2 ^ 25
    → AreTokens v (items xs) × (count_by is_literal (before ++ items xs) ≤ 2 ^ 25)
words_are v before [] h k = (tt, subst (λ ts. count_by is_literal ts ≤ 2 ^ 25) (sym (append-nil before)) k)
words_are v before (x ∷ xs) h k =
    let both = or_else_none _ _ h in
    let here = word_is v before x.1 (at_line_none x.0 _ both.0) k in
    let rest = words_are v (before ++ x.1 ∷ []) xs both.1 here.1 in
    ((here.0, rest.0), subst (λ ts. count_by is_literal ts ≤ 2 ^ 25) (append_assoc before (x.1 ∷ []) (items xs)) rest.1)

-- a literal put before the first clause takes no clause away, and makes one where there is none
length-onto : (l : ℤ) (cs : List (List ℤ)) → (length cs ≤ length (onto_first l cs)) × (1 ≤ length (onto_first l cs))
length-onto l [] = (omega arith, omega arith)
length-onto l (c ∷ cs) = (omega arith, omega arith)

-- each end closes a clause, and a word behind it is in another
ends_close : (v : ℕ) (before more : List (Option Token)) (t : Option Token) → IsToken v t
    → count_by is_clause_end before < length (clauses_of (before ++ t ∷ more))
ends_close v [] more None h = absurd h
ends_close v [] more (Some End) h = omega arith
ends_close v [] more (Some (Literal l)) h = omega (arith, (length-onto l (clauses_of more)).1)
ends_close v (None ∷ before) more t h =
    omega (arith, ends_close v before more t h, sum_by-cons (λ x. cond (is_clause_end x) 1 0) None before)
ends_close v (Some End ∷ before) more t h =
    omega (arith, ends_close v before more t h, sum_by-cons (λ x. cond (is_clause_end x) 1 0) (Some End) before)
ends_close v (Some (Literal l) ∷ before) more t h =
    omega (
      arith,
      ends_close v before more t h,
      (length-onto l (clauses_of (before ++ t ∷ more))).0,
      sum_by-cons (λ x. cond (is_clause_end x) 1 0) (Some (Literal l)) before,
    )

-- before a word that counts fewer count than in all
count_front : (p : Option Token → Bool) (before more : List (Option Token)) (t : Option Token) → p t ≡ true
    → count_by p before < count_by p (before ++ t ∷ more)
count_front p before more t e =
    let weight : Bool → ℕ = λ b. cond b 1 0 in
    let one : weight (p t) ≡ 1 = ap weight e in
    omega (arith, sum_by-append (λ x. cond (p x) 1 0) before (t ∷ more), sum_by-cons (λ x. cond (p x) 1 0) t more, one)

-- a word of the grammar has no fault
no_fault : (v : ℕ) (before more : List (Option Token)) (t : Option Token) → IsToken v t
    → length (clauses_of (before ++ t ∷ more)) ≤ 2 ^ 22 → count_by is_literal (before ++ t ∷ more) ≤ 2 ^ 25
    → token_fault v before t ≡ None
no_fault v before more None h a b = absurd h
no_fault v before more (Some End) h a b =
    let few : nat_lt (count_by is_clause_end before) (2 ^ 22) ≡ true =
    lt-ltb _ _ (omega (arith, a, ends_close v before more (Some End) h)) in
    rw few refl
no_fault v before more (Some (Literal l)) h a b =
    let small : nat_lt v (nat_abs l) ≡ false = le-ltb v (nat_abs l) h in
    let few : nat_lt (count_by is_clause_end before) (2 ^ 22) ≡ true =
    lt-ltb _ _ (omega (arith, a, ends_close v before more (Some (Literal l)) h)) in
    let room : nat_lt (count_by is_literal before) (2 ^ 25) ≡ true =
    lt-ltb _ _ (omega (arith, b, count_front is_literal before more (Some (Literal l)) refl)) in
    rw (small, few, room) refl

-- words of the grammar that are within the limits have no fault
no_faults : (v : ℕ) (before : List (Option Token)) (xs : List (ℕ × Option Token)) → AreTokens v (items xs)
    → length (clauses_of (before ++ items xs)) ≤ 2 ^ 22 → count_by is_literal (before ++ items xs) ≤ 2 ^ 25
    → first_refusal (token_fault v) before xs ≡ None
no_faults v before [] h a b = refl
no_faults v before (x ∷ xs) h a b =
    let here : token_fault v before x.1 ≡ None = no_fault v before (items xs) x.1 h.0 a b in
    let same = sym (append_assoc before (x.1 ∷ []) (items xs)) in
    let rest : first_refusal (token_fault v) (before ++ x.1 ∷ []) xs ≡ None =
    no_faults v (before ++ x.1 ∷ []) xs h.1 (subst (λ ts. length (clauses_of ts) ≤ 2 ^ 22) same a)
    (subst (λ ts. count_by is_literal ts ≤ 2 ^ 25) same b) in
    ap (λ f. or_else (at_line x.0 f) (first_refusal (token_fault v) (before ++ x.1 ∷ []) xs)) here ∙ rest

-- what a header without a fault declares
pub record Declares (words : List (List ℕ)) : Type 0 where
  pub is : declared words ≡ Some (variables_in words, clauses_in words)
  pub four : length words ≤ 4
  pub variables_fit : variables_in words ≤ 2 ^ 22
  pub clauses_fit : clauses_in words ≤ 2 ^ 22

-- a header without a fault declares two numbers within the limits
pub declares : (words : List (List ℕ)) → header_fault words ≡ None → Declares words
declares words h = by (declared words) refl h
  where
    by : (d : Option (ℕ × ℕ)) → declared words ≡ d
        → option_map_or (λ e. cond (nat_lt 4 (length words)) (Some (Fault.Code 4))
        (cond (nat_lt (2 ^ 22) e.0) (Some (Fault.Passes 2))
        (cond (nat_lt (2 ^ 22) e.1) (Some (Fault.Passes 3)) None))) d (Some (Fault.Code 1)) ≡ None
        → Declares words
    by None e h = absurd (cc)
    by (Some d) e h =
        let one = chosen_else _ _ _ h in
        let two = chosen_else _ _ _ one.1 in
        let v : variables_in words ≡ d.0 = ap (λ o. option_map_or (λ x. x.0) o 0) e in
        let c : clauses_in words ≡ d.1 = ap (λ o. option_map_or (λ x. x.1) o 0) e in
        record {
          is = e ∙ ap₂ (λ m n. Some (m, n)) (sym v) (sym c);
          four = ltb-false 4 (length words) one.0;
          variables_fit = omega (arith, v, ltb-false (2 ^ 22) d.0 two.0);
          clauses_fit = omega (arith, c, ltb-false (2 ^ 22) d.1 (chosen_none _ _ two.1));
        }

-- a count that isn't refused is the one that was declared
same_count : (t : Bool) (r : ReadRefusal) → cond t None (Some r) ≡ None → t ≡ true
same_count true r h = refl
same_count false r h = absurd (cc)

-- A text without a refusal is in the grammar.
pub sound : (text : List ℕ) → cnf_refusal text ≡ None → IsCnfText text (cnf_of text)
sound text h =
    let a = accepted cnf text h in by a.short (cnf_lines (lines_of text)) refl a.lines a.whole
  where
    by : length text ≤ text_limit → (ls : List (ℕ × List (List ℕ))) → cnf_lines (lines_of text) ≡ ls
        → line_refusal ls ≡ None → whole_refusal (length (lines_of text) + 1) ls ≡ None → IsCnfText text (formula_in ls)
    by short [] e a b = absurd (cc)
    by short (header ∷ others) e a b =
        let both = or_else_none (at_line header.0 (header_fault header.1)) _ a in
        let d : Declares header.1 = declares header.1 (at_line_none header.0 (header_fault header.1) both.0) in
        let words = words_are (variables_in header.1) [] (body others) both.1 (omega arith) in
        let count : clauses_in header.1 ≡ length (clauses_of (items (body others))) = eqb-true _ _ (same_count _ _ b) in
        record {
          short = short;
          header = header;
          others = others;
          lines = e;
          declares = d.is ∙ ap (λ n. Some (variables_in header.1, n)) count;
          four_words = d.four;
          variables_fit = d.variables_fit;
          clauses_fit = omega (arith, d.clauses_fit, count);
          words = words.0;
          literals_fit = words.1;
          clauses = refl;
        }

-- A text of the grammar has no refusal, and its formula is the one that the text spells.
pub complete : (text : List ℕ) (f : Cnf) → IsCnfText text f → (cnf_refusal text ≡ None) × (f ≡ cnf_of text)
complete text f g =
    let v : variables_in g.header.1 ≡ f.variables = ap (λ o. option_map_or (λ x. x.0) o 0) g.declares in
    let c : clauses_in g.header.1 ≡ length f.clauses = ap (λ o. option_map_or (λ x. x.1) o 0) g.declares in
    let header : header_fault g.header.1 ≡ None =
    no_header_fault g.header.1 g.four_words (omega (arith, v, g.variables_fit))
    (omega (arith, c, g.clauses_fit)) f.variables (length f.clauses) g.declares in
    let few : length (clauses_of (items (body g.others))) ≤ 2 ^ 22 =
    omega (arith, ap length g.clauses, g.clauses_fit) in
    let words : first_refusal (token_fault (variables_in g.header.1)) [] (body g.others) ≡ None =
    no_faults (variables_in g.header.1) [] (body g.others)
    (subst (λ n. AreTokens n (items (body g.others))) (sym v) g.words) few g.literals_fit in
    let lines : line_refusal (g.header ∷ g.others) ≡ None =
    ap₂ (λ a b. or_else (at_line g.header.0 a) b) header words in
    let count : clauses_in g.header.1 ≡ length (clauses_of (items (body g.others))) = c ∙ ap length g.clauses in
    let same : nat_eq (clauses_in g.header.1) (length (clauses_of (items (body g.others)))) ≡ true = eq-eqb _ _ count in
    let whole : whole_refusal (length (lines_of text) + 1) (g.header ∷ g.others) ≡ None = rw same refl in (
      not_refused cnf text (record {
        short = g.short;
        lines = ap line_refusal g.lines ∙ lines;
        whole = ap (whole_refusal (length (lines_of text) + 1)) g.lines ∙ whole;
      }),
      ap₂ (λ n cs. record { variables = n; clauses = cs }) (sym v) g.clauses ∙ ap formula_in (sym g.lines),
    )
  where
    no_header_fault : (words : List (List ℕ)) → length words ≤ 4 → variables_in words ≤ 2 ^ 22
        → clauses_in words ≤ 2 ^ 22 → (v c : ℕ) → declared words ≡ Some (v, c) → header_fault words ≡ None
    no_header_fault words four a b v c e =
        let vs : variables_in words ≡ v = ap (λ o. option_map_or (λ x. x.0) o 0) e in
        let cs : clauses_in words ≡ c = ap (λ o. option_map_or (λ x. x.1) o 0) e in
        let one : nat_lt 4 (length words) ≡ false = le-ltb 4 (length words) four in
        let two : nat_lt (2 ^ 22) v ≡ false = le-ltb (2 ^ 22) v (omega (arith, vs, a)) in
        let three : nat_lt (2 ^ 22) c ≡ false = le-ltb (2 ^ 22) c (omega (arith, cs, b)) in
        rw e (rw (one, two, three) refl)

-- a text is that of one formula at most
pub one_formula : HasOneFormula
one_formula text f g a b = (complete text f a).1 ∙ sym (complete text g b).1

-- the two definitions of the format say the same
pub accepts_exactly : AcceptsExactly
accepts_exactly text f = (complete text f, λ none. subst (IsCnfText text) (sym none.1) (sound text none.0))
