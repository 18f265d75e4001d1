-- No token of a head has a line end, so the lines of a certificate's text begin with those of its head. A number has
-- no other sign either.
use Rattle.std.proofs.Common.{inl, ◌≡◌, ◌≢◌, ◌⊎◌, ℕ, zero, suc, ◌/◌, ◌%◌, ◌^◌, ◌<◌, Bool, true, false, not, eqb, cond, List, [], ◌∷◌, ◌++◌, map, slice_index, Contains, refl, sym, ap, subst, ◌∙◌, arith, append_assoc, codes, decimal}
use Rattle.std.specs.List.{AllByRecursion, concat, join_with_byte, list_any}
use Rattle.std.proofs.lemmas.Bool.{or_parts, eqb-false, ne_eqb, not-true}
use Rattle.hex.specs.Hex.{encode_lower, encode_with, lower_digits}
use Rattle.pop_model.specs.Text.{line}
use Rattle.pop_log.specs.TextLines.{onto_line, lines_with_ends}
use Rattle.pop_log.proofs.LogTextsLemmas.{decimal_digits}
use Rattle.pop_stacks.specs.declared.stack_spec.StackSpec.{StackSpec}
use Rattle.pop_stacks.specs.declared.stack_spec.StackSpec.TheVariants.{Key, Given}
use Rattle.pop_words.specs.declared.command.Command.{Command}
use Rattle.pop_words.specs.Options.{command_word, paused}
use Rattle.pop_words.proofs.ListTests.{all_at}
use Rattle.pop_log.proofs.DecimalsLemmas.{wide}
use Rattle.pop_log.proofs.Fronts.{each_append}
use Rattle.run_cert.specs.Heads.{Head, has_root, row_text, rows_text, stacks_line, height_lines, root_lines, head_lines, MayBeStacks, MayBeHeight, MayBeRoot, IsHead}
use Rattle.run_cert.proofs.Joined.{Lacks, lacks_append, digits_lack, joined_lacks}

-- literal bytes lack a sign by a test
lacks_by : (sign : ℕ) (bytes : List ℕ) → list_any (λ b. eqb b sign) bytes ≡ false → Lacks sign bytes
lacks_by sign [] test = tt
lacks_by sign (b ∷ bytes) test =
    let parts = or_parts (eqb b sign) (list_any (λ c. eqb c sign) bytes) test in
    (λ same. eqb-false b sign parts.0 same, lacks_by sign bytes parts.1)

-- a number has no line end, comma or semicolon
number_lacks : (sign n : ℕ) → (sign < 48) ⊎ (57 < sign) → n < 2 ^ 64 → Lacks sign (decimal n)
number_lacks sign n other fits = digits_lack sign (decimal n) other (decimal_digits n fits)

-- ---- the words of a head

-- the first line of a command has no line end within it
abbrev is_one_line : Command → Bool
is_one_line c = not (list_any (λ b. eqb b 10) (codes "cert 1 " ++ command_word c))

-- so it is with the commands that a certificate may have
pub command_lacks : (c : Command) → Contains paused c → Lacks 10 (codes "cert 1 " ++ command_word c)
command_lacks c may =
    lacks_by 10 (codes "cert 1 " ++ command_word c) (not-true _ (all_at is_one_line paused refl c may))

-- a place of a list that lacks a sign
index_lacks : (sign : ℕ) (t : List ℕ) (k : ℕ) → 0 ≢ sign → Lacks sign t → slice_index t k ≢ sign
index_lacks sign [] k zero_differs none same = zero_differs same
index_lacks sign (b ∷ t) zero zero_differs none same = none.0 same
index_lacks sign (b ∷ t) (suc k) zero_differs none same = index_lacks sign t k zero_differs none.1 same

-- digits of a key have no line end
hex_lacks : (key : List ℕ) → Lacks 10 (encode_lower key)
unfolding encode_with
hex_lacks [] = tt
hex_lacks (b ∷ key) =
    let digits : Lacks 10 lower_digits = lacks_by 10 lower_digits refl in
    let zero_differs : 0 ≢ 10 = λ h. absurd (omega (arith, h)) in (
      index_lacks 10 lower_digits (b / 16) zero_differs digits,
      (index_lacks 10 lower_digits (b % 16) zero_differs digits, hex_lacks key),
    )

-- the line of a key
key_lacks : (key : List ℕ) → Lacks 10 (codes "key " ++ encode_lower key)
key_lacks key = lacks_append 10 (codes "key ") (encode_lower key) (lacks_by 10 (codes "key ") refl) (hex_lacks key)

-- a label and a number
labeled_lacks : (label : List ℕ) (n : ℕ) → list_any (λ b. eqb b 10) label ≡ false → n < 2 ^ 64
    → Lacks 10 (label ++ decimal n)
labeled_lacks label n test fits =
    lacks_append 10 label (decimal n) (lacks_by 10 label test) (number_lacks 10 n (inl (omega arith)) fits)

-- the numbers of a row are 32 bits
abbrev pub RowFits : List ℕ → Type 0
RowFits row = AllByRecursion (λ n. n < 2 ^ 32) row

-- so their digits lack every other sign
pub numbers_lack : (sign : ℕ) (row : List ℕ) → (sign < 48) ⊎ (57 < sign) → RowFits row
    → AllByRecursion (Lacks sign) (map decimal row)
numbers_lack sign [] other fits = tt
numbers_lack sign (n ∷ row) other fits =
    (number_lacks sign n other (wide n fits.0), numbers_lack sign row other fits.1)

-- a row has no sign but digits and commas
row_lacks : (sign : ℕ) (row : List ℕ) → (sign < 48) ⊎ (57 < sign) → 44 ≢ sign → RowFits row → Lacks sign (row_text row)
row_lacks sign row other differ fits = joined_lacks 44 sign (map decimal row) differ (numbers_lack sign row other fits)

-- so do rows
pub rows_lack : (sign : ℕ) (rows : List (List ℕ)) → (sign < 48) ⊎ (57 < sign) → 44 ≢ sign → AllByRecursion RowFits rows
    → AllByRecursion (Lacks sign) (map row_text rows)
rows_lack sign [] other differ fits = tt
rows_lack sign (row ∷ rows) other differ fits =
    (row_lacks sign row other differ fits.0, rows_lack sign rows other differ fits.1)

-- the line of rows
given_lacks : (rows : List (List ℕ)) → AllByRecursion RowFits rows → Lacks 10 (codes "stacks" ++ rows_text rows)
given_lacks [] fits = lacks_by 10 (codes "stacks" ++ []) refl
given_lacks (row ∷ rows) fits =
    lacks_append 10 (codes "stacks") (32 ∷ join_with_byte 59 (map row_text (row ∷ rows)))
    (lacks_by 10 (codes "stacks") refl) (
      λ h. absurd (omega (arith, h)),
      joined_lacks 59 10 (map row_text (row ∷ rows)) (λ h. absurd (omega (arith, h)))
          (rows_lack 10 (row ∷ rows) (inl (omega arith)) (λ h. absurd (omega (arith, h))) fits),
    )

-- ---- the lines of a head

-- a line is one of the lines of a text
line_first : (a x : List ℕ) → Lacks 10 a → lines_with_ends (line a ++ x) ≡ line a ∷ lines_with_ends x
line_first [] x none = refl
line_first (b ∷ a) x none =
    ap (λ t. cond t ((b ∷ []) ∷ lines_with_ends (line a ++ x)) (onto_line b (lines_with_ends (line a ++ x))))
    (ne_eqb b 10 none.0)
    ∙ ap (onto_line b) (line_first a x none.1)

-- this is a line
abbrev IsLine : List ℕ → Type 0
IsLine l = (a : List ℕ) × Lacks 10 a × (l ≡ line a)

-- a label and a number are one
labeled_line : (label : List ℕ) (n : ℕ) → list_any (λ b. eqb b 10) label ≡ false → n < 2 ^ 64
    → IsLine (line (label ++ decimal n))
labeled_line label n test fits = (label ++ decimal n, labeled_lacks label n test fits, refl)

-- lines are the first ones of a text that begins with them
lines_first : (ls : List (List ℕ)) (x : List ℕ) → AllByRecursion IsLine ls
    → lines_with_ends (concat ls ++ x) ≡ ls ++ lines_with_ends x
lines_first [] x are = refl
lines_first (l ∷ ls) x are =
    let a = are.0.0 in
    let is : l ≡ line a = are.0.2 in
    ap lines_with_ends (append_assoc l (concat ls) x ∙ ap (λ m. m ++ (concat ls ++ x)) is)
    ∙ line_first a (concat ls ++ x) are.0.1
    ∙ ap (λ (m : List ℕ). m ∷ lines_with_ends (concat ls ++ x)) (sym is)
    ∙ ap (λ (ms : List (List ℕ)). l ∷ ms) (lines_first ls x are.1)

-- the first line of stacks
stacks_is : (s : StackSpec) → MayBeStacks s → IsLine (stacks_line s)
stacks_is (Key key) may = (codes "key " ++ encode_lower key, key_lacks key, refl)
stacks_is (Given rows) may = (codes "stacks" ++ rows_text rows, given_lacks rows may.2, refl)

-- the line behind it
height_is : (s : StackSpec) (h : ℕ) → MayBeHeight s h → AllByRecursion IsLine (height_lines s h)
height_is (Key key) h high = (labeled_line (codes "height ") h refl (let low = high.1 in omega (arith, low)), tt)
height_is (Given rows) h high = tt

-- the line of a root
root_is : (rooted : Bool) (r : ℕ) → MayBeRoot rooted r → AllByRecursion IsLine (root_lines rooted r)
root_is true r root = (labeled_line (codes "root ") r refl (wide r root.1), tt)
root_is false r root = tt

-- all lines of a head
head_are : (h : Head) → IsHead h → AllByRecursion IsLine (head_lines h)
head_are h is = (
  (codes "cert 1 " ++ command_word h.command, command_lacks h.command is.command, refl),
  (
    stacks_is h.stacks is.stacks,
    each_append IsLine (height_lines h.stacks h.height) _ (height_is h.stacks h.height is.height)
        (each_append IsLine (root_lines (has_root h.command) h.root) _ (root_is (has_root h.command) h.root is.root)
        (labeled_line (codes "input ") h.size refl (wide h.size is.size), tt)),
  ),
)

-- the lines of a text that begins with the first ones of a head begin with these
pub front_first : (h : Head) (ls more : List (List ℕ)) (x : List ℕ) → IsHead h → head_lines h ≡ ls ++ more
    → lines_with_ends (concat ls ++ x) ≡ ls ++ lines_with_ends x
front_first h ls more x is lines =
    lines_first ls x (each_front ls (subst (AllByRecursion IsLine) lines (head_are h is)))
  where
    each_front : (ms : List (List ℕ)) → AllByRecursion IsLine (ms ++ more) → AllByRecursion IsLine ms
    each_front [] are = tt
    each_front (m ∷ ms) are = (are.0, each_front ms are.1)

-- and with those of a whole head
pub head_first : (h : Head) (x : List ℕ) → IsHead h
    → lines_with_ends (concat (head_lines h) ++ x) ≡ head_lines h ++ lines_with_ends x
head_first h x is = lines_first (head_lines h) x (head_are h is)
