-- A line more behind the header. The words that count are those of the lines up to one that begins with `%`. A line
-- behind such a line, and that line itself, add no word; each other line adds its words at the end. So what is known of
-- the lines so far, and of the words of one line more, is known of all these lines, or the line is refused as they are.
use Rattle.std.proofs.Common.{◌≡◌, ◌≢◌, ◌⊎◌, inl, inr, ℕ, suc, ◌+◌, Bool, true, false, cond, not, ◌||◌, List, [], ◌∷◌, ◌++◌, map, take, flat_map, Option, None, Some, Result, Ok, Err, refl, sym, ap, ap₂, ◌∙◌, subst, arith, append_assoc, append-nil, nat_eq}
use Rattle.std.proofs.lemmas.List.{map-append}
use Rattle.std.specs.List.{list_any, prefix_len}
use Rattle.std.specs.Option.{option_map_or}
use Rattle.std.proofs.lemmas.List.Folds.{list_any-append}
use Rattle.std.proofs.lemmas.Bool.{cases_Bool, ne_eqb, eq-eqb, or_parts}
use Rattle.pop_edge.specs.declared.refusal.ReadRefusal.{ReadRefusal}
use Rattle.pop_edge.specs.Refusals.{or_else, at_line, first_refusal}
use Rattle.pop_edge.specs.Words.{begins_with, words_of}
use Rattle.dimacs_read.specs.declared.reader.Reader.{Reader}
use Rattle.dimacs_read.specs.declared.header.Header.{Header}
use Rattle.dimacs_read.specs.declared.token.Token.{Token}
use Rattle.dimacs_read.specs.Tokens.{token_of}
use Rattle.dimacs_read.specs.CnfText.{cnf, token_fault, body, is_passed_over, variables_in, header_fault, line_refusal}
use Rattle.dimacs_read.specs.Reading.{placed, Holds, TakesWords, TakesMore, Knows, HasHeader}
use Rattle.pop_edge.specs.Judging.{TakesLine, told}
use Rattle.pop_edge.proofs.RefusalsLemmas.{items, first_refusal-append, or_else_none}

-- the words of lines, under the lines' numbers
abbrev Lines : Type 0
Lines = List (ℕ × List (List ℕ))

-- the line begins with `%`, and so ends the clauses
abbrev pub ends : ℕ × List (List ℕ) → Bool
ends line = begins_with 37 line.1

-- what the words of a line spell, with its number
abbrev pub words_at : ℕ × List (List ℕ) → List (ℕ × Option Token)
words_at line = map (λ word. (line.0, token_of word)) line.1

-- the words of a line that ends nothing stand first
pub body_yes : (x : ℕ × List (List ℕ)) (xs : Lines) → ends x ≡ false → body (x ∷ xs) ≡ words_at x ++ body xs
body_yes x xs h =
    let pass : not (ends x) ≡ true = ap not h in
    let one : 1 + prefix_len (λ line. not (ends line)) xs ≡ suc (prefix_len (λ line. not (ends line)) xs) =
    omega arith in
    ap (λ n. flat_map words_at (take n (x ∷ xs)))
    (ap (λ b. cond b (1 + prefix_len (λ line. not (ends line)) xs) 0) pass ∙ one)

-- a line that ends the clauses has no word, nor has what follows
pub body_no : (x : ℕ × List (List ℕ)) (xs : Lines) → ends x ≡ true → body (x ∷ xs) ≡ []
body_no x xs h =
    let fail : not (ends x) ≡ false = ap not h in
    ap (λ b. flat_map words_at (take (cond b (1 + prefix_len (λ line. not (ends line)) xs) 0) (x ∷ xs))) fail

-- behind a line that ends the clauses nothing counts
pub body_ended : (xs : Lines) (x : ℕ × List (List ℕ)) → list_any ends xs ≡ true → body (xs ++ x ∷ []) ≡ body xs
body_ended [] x h = absurd (cc)
body_ended (y ∷ xs) x h =
    elim (cases_Bool (ends y)) [
      | inl e ↦ body_no y (xs ++ x ∷ []) e ∙ sym (body_no y xs e)
      | inr e ↦ (let rest : list_any ends xs ≡ true = ap (λ b. b || list_any ends xs) (sym e) ∙ h in
          body_yes y (xs ++ x ∷ []) e ∙ ap (λ ws. words_at y ++ ws) (body_ended xs x rest) ∙ sym (body_yes y xs e))
    ]

-- a line that ends the clauses has plain_line words that count
pub body_stop : (xs : Lines) (x : ℕ × List (List ℕ)) → ends x ≡ true → body (xs ++ x ∷ []) ≡ body xs
body_stop [] x h = body_no x [] h
body_stop (y ∷ xs) x h =
    elim (cases_Bool (ends y)) [
      | inl e ↦ body_no y (xs ++ x ∷ []) e ∙ sym (body_no y xs e)
      | inr e ↦ body_yes y (xs ++ x ∷ []) e ∙ ap (λ ws. words_at y ++ ws) (body_stop xs x h) ∙ sym (body_yes y xs e)
    ]

-- before such a line the words of one more line come last
pub body_more : (xs : Lines) (x : ℕ × List (List ℕ)) → list_any ends xs ≡ false → ends x ≡ false
    → body (xs ++ x ∷ []) ≡ body xs ++ words_at x
body_more [] x h k = body_yes x [] k ∙ append-nil (words_at x)
body_more (y ∷ xs) x h k =
    let p = or_parts (ends y) (list_any ends xs) h in
    body_yes y (xs ++ x ∷ []) p.0 ∙ ap (λ ws. words_at y ++ ws) (body_more xs x p.1 k)
    ∙ sym (append_assoc (words_at y) (body xs) (words_at x)) ∙ ap (λ ws. ws ++ words_at x) (sym (body_yes y xs p.0))

-- whether a line ended the clauses, with one more
any_more : (xs : Lines) (x : ℕ × List (List ℕ)) (s t : Bool) → list_any ends xs ≡ s → ends x ≡ t
    → list_any ends (xs ++ x ∷ []) ≡ (s || (t || false))
any_more xs x s t h k = list_any-append ends xs (x ∷ []) ∙ ap₂ (λ a b. a || (b || false)) h k

-- what the words of a line spell, without its number
items_words : (line : ℕ) (ws : List (List ℕ)) → items (map (λ word. (line, token_of word)) ws) ≡ map token_of ws
items_words line [] = refl
items_words line (w ∷ ws) = ap (λ ts. token_of w ∷ ts) (items_words line ws)

-- where a line before or the new one ends the clauses, one of all does
or_true : (s t : Bool) → (s ≡ true) ⊎ (t ≡ true) → (s || (t || false)) ≡ true
or_true true t h = refl
or_true false true (inl e) = refl
or_true false true (inr e) = refl
or_true false false (inl e) = e
or_true false false (inr e) = e

-- the line changes nothing behind the end of the clauses
known_still : (a b : Reader) (h x : ℕ × List (List ℕ)) (others : Lines) → HasHeader a h others → b.header ≡ a.header
    → b.clauses ≡ a.clauses → b.ended ≡ true → (a.ended ≡ true) ⊎ (ends x ≡ true) → HasHeader b h (others ++ x ∷ [])
known_still a b h x others k same clauses ended why =
    let same_body : body (others ++ x ∷ []) ≡ body others = elim why [
      | inl e ↦ body_ended others x (sym k.ended ∙ e)
      | inr e ↦ body_stop others x e
    ] in
    let any : list_any ends (others ++ x ∷ []) ≡ true =
    any_more others x (list_any ends others) (ends x) refl refl
    ∙ or_true (list_any ends others) (ends x) (elim why [ inl e ↦ inl (sym k.ended ∙ e) | inr e ↦ inr e ]) in
    record {
      fields = k.fields;
      is = same ∙ k.is;
      declares = k.declares;
      clean = ap (λ ws. or_else (at_line h.0 (header_fault h.1))
          (first_refusal (token_fault (variables_in h.1)) [] ws)) same_body ∙ k.clean;
      holds = subst (λ ws. Holds b.clauses (items ws)) (sym same_body)
          (subst (λ cs. Holds cs (items (body others))) (sym clauses) k.holds);
      ended = ended ∙ sym any;
    }

-- the refusal among the lines, with the words of a line more
refusal_more : (h x : ℕ × List (List ℕ)) (others : Lines) → line_refusal (h ∷ others) ≡ None
    → list_any ends others ≡ false → ends x ≡ false
    → line_refusal (h ∷ others ++ x ∷ [])
    ≡ first_refusal (token_fault (variables_in h.1)) (items (body others)) (words_at x)
refusal_more h x others clean none plain_line =
    let both = or_else_none (at_line h.0 (header_fault h.1)) _ clean in
    ap₂ (λ a ws. or_else a (first_refusal (token_fault (variables_in h.1)) [] ws)) both.0
    (body_more others x none plain_line)
    ∙ first_refusal-append (token_fault (variables_in h.1)) [] (body others) (words_at x)
    ∙ ap (λ a. or_else a (first_refusal (token_fault (variables_in h.1)) (items (body others)) (words_at x))) both.1

-- the line's words are taken, or refused
known_more : (a b : Reader) (h : ℕ × List (List ℕ)) (others : Lines) (header : Header) (number : ℕ) (line : List ℕ)
    (result : Result (Unit {0}) ReadRefusal) → HasHeader a h others → a.header ≡ Some header → b.header ≡ a.header
    → a.ended ≡ false → b.ended ≡ false → ends (number, words_of line) ≡ false
    → TakesWords b.clauses header.variables number line (items (body others)) result
    → TakesLine cnf (Knows b) (h ∷ others ++ (number, words_of line) ∷ []) result
known_more a b h others header number line result k is same open' ended plain_line takes = by result takes
  where
    x : ℕ × List (List ℕ)
    x = (number, words_of line)

    same_fields : k.fields ≡ header
    same_fields = let e : Some k.fields ≡ Some header = sym k.is ∙ is in cc

    variables : variables_in h.1 ≡ header.variables
    variables = ap (λ o. option_map_or (λ d. d.0) o 0) k.declares ∙ ap (λ f. f.variables) same_fields

    none : list_any ends others ≡ false
    none = sym k.ended ∙ open'

    joined : items (body (others ++ (number, words_of line) ∷ [])) ≡ items (body others) ++ map token_of (words_of line)
    joined = ap items (body_more others (number, words_of line) none plain_line)
        ∙ map-append (λ w. w.1) (body others) (words_at (number, words_of line))
        ∙ ap (λ ts. items (body others) ++ ts) (items_words number (words_of line))

    whole : line_refusal (h ∷ others ++ (number, words_of line) ∷ [])
        ≡ first_refusal (token_fault header.variables) (items (body others)) (placed number line)
    whole = refusal_more h (number, words_of line) others k.clean none plain_line
        ∙ ap (λ v. first_refusal (token_fault v) (items (body others)) (placed number line)) variables

    by : (r : Result (Unit {0}) ReadRefusal) → TakesWords b.clauses header.variables number line (items (body others)) r
        → TakesLine cnf (Knows b) (h ∷ others ++ (number, words_of line) ∷ []) r
    by (Ok u) t =
        record {
          fields = k.fields;
          is = same ∙ k.is;
          declares = k.declares;
          clean = whole ∙ t.0;
          holds = subst (Holds b.clauses) (sym joined) t.1;
          ended = ended ∙ sym (any_more others (number, words_of line) false false none plain_line);
        }
    by (Err e) t = elim t [ inl m ↦ inl m | inr f ↦ inr (whole ∙ f) ]

-- a line behind the header
pub takes_line : (a b : Reader) (lines : Lines) (header : Header) (number first : ℕ) (line : List ℕ)
    (result : Result (Unit {0}) ReadRefusal) → Knows a lines → a.header ≡ Some header → b.header ≡ a.header
    → (bytes : List ℕ) × (others : List (List ℕ)) × (words_of line ≡ (first ∷ bytes) ∷ others) → first ≢ 99
    → TakesMore a b header number first line result → TakesLine cnf (Knows b) (lines ++ told cnf number (words_of line)) result
takes_line a b [] header number first line result k is same words other takes = absurd (none_some (sym k.is ∙ is))
  where
    none_some : ◌≡◌ {A = Option Header} None (Some header) → ⊥
    none_some e = cc
takes_line a b (h ∷ others) header number first line result k is same words other takes =
    let counts : is_passed_over (words_of line) ≡ false = ap is_passed_over words.2 ∙ ne_eqb first 99 other in
    let here : told cnf number (words_of line) ≡ (number, words_of line) ∷ [] = rw counts refl in
    let begins : begins_with 37 (words_of line) ≡ nat_eq first 37 = ap (begins_with 37) words.2 in
    subst (λ ls. TakesLine cnf (Knows b) (h ∷ others ++ ls) result) (sym here) (elim takes [
      | inl t ↦ subst (TakesLine cnf (Knows b) (h ∷ others ++ (number, words_of line) ∷ [])) (sym t.3)
          (known_still a b h (number, words_of line) others k same t.2 t.0
          (elim t.1 [ inl e ↦ inl e | inr e ↦ inr (begins ∙ eq-eqb first 37 e) ]))
      | inr t ↦ known_more a b h others header number line result k is same t.1 t.0 (begins ∙ ne_eqb first 37 t.2)
          (t.3 (items (body others)) k.holds)
    ])
