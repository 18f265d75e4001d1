-- Tickets are merged into at most one log.
use Rattle.std.proofs.Common.{◌≡◌, ℕ, ◌+◌, ◌<◌, List, length, get_or, All, IsPermutation, sym, ap, subst, ◌∙◌, arith}
use Rattle.std.specs.List.{enumerate_from}
use Rattle.std.proofs.lemmas.List.{same_lists, get_or_default}
use Rattle.std.proofs.lemmas.List.FromFn.{get_or-enumerate_from, length-enumerate_from}
use Rattle.std.proofs.lemmas.List.Sorted.{IsPermutation-sym, IsPermutation-trans, All-permutation, length_permutation}
use Rattle.pop_model.specs.Logs.{LogRecord}
use Rattle.pop_model.specs.Tickets.{IsMerged}

-- the record stands in the log at its number
abbrev Stands : List LogRecord → LogRecord → ℕ × LogRecord → Type 0
Stands log d t = get_or log t.0 d ≡ t.1

-- the number of the record at place k is 0 + k
from_zero : (log : List LogRecord) (k : ℕ) (d : LogRecord) → get_or log (0 + k) d ≡ get_or log k d
from_zero log k d = ap (λ i. get_or log i d) (omega arith)

-- each record of a numbered log stands at its number
all_stand : (log : List LogRecord) (d : LogRecord) → All (Stands log d) (enumerate_from 0 log)
all_stand log d k e inside =
    let count = length-enumerate_from 0 log in
    let within : k < length log = omega (arith, inside, count) in
    subst (Stands log d) (sym (get_or-enumerate_from 0 log k e within)) (from_zero log k d ∙ get_or_default log k d e.1 within)

-- two logs that the same tickets are merged into are one
pub one_merged : (tickets : List (ℕ × LogRecord)) (xs ys : List LogRecord)
    → IsMerged tickets xs → IsMerged tickets ys → xs ≡ ys
one_merged tickets xs ys one other =
    let numbered : List (ℕ × LogRecord) = enumerate_from 0 xs in
    let also : List (ℕ × LogRecord) = enumerate_from 0 ys in
    let moved : IsPermutation also numbered =
    IsPermutation-trans also tickets numbered (IsPermutation-sym tickets also other) one in
    let size = length_permutation also numbered moved in
    let first = length-enumerate_from 0 xs in
    let second = length-enumerate_from 0 ys in
    same_lists xs ys (omega (arith, size, first, second)) (λ k d inside.
    let stands = subst (Stands ys d) (get_or-enumerate_from 0 xs k (0, d) inside)
    (All-permutation (Stands ys d) also numbered moved (all_stand ys d) k (0, d) (omega (arith, inside, first))) in
    sym stands ∙ from_zero ys k d)
