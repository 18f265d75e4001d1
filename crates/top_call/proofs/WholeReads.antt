-- A source that is read completely, piece by piece.
use Rattle.std.proofs.Common.{◌≡◌, ◌≤◌, ◌<◌, ◌+◌, ◌-◌, ℕ, List, length, Option, Result, Err, sym, ap, subst, arith, length-append}
use Rattle.std.specs.Io.KnownBytes.{Consumes, Keeps}
use Rattle.std.proofs.KnownBytes.{Consumes-trans, Consumes-kept}
use Rattle.top_call.specs.Whole.{TakesPiece, IsReadTo}

-- what was taken, with a piece more
pub taken_more : (start left left' : Option (List ℕ)) (before now : List ℕ) (count : ℕ) → Consumes start left before
    → TakesPiece left left' before now count → Consumes start left' now
taken_more start left left' before now count taken piece =
    subst (Consumes start left') (sym piece.added)
    (Consumes-trans start left left' before piece.piece taken piece.consumed)

-- its length
pub length_more : (left left' : Option (List ℕ)) (before now : List ℕ) (count wanted limit : ℕ)
    → TakesPiece left left' before now count → count ≤ wanted → wanted ≤ limit + 1 - length before
    → length before ≤ limit → length now ≤ limit + 1
length_more left left' before now count wanted limit piece few wanted_few short =
    let size = ap (λ (l : List ℕ). length l) piece.added in
    let parts = length-append before piece.piece in
    let same = piece.size in
    omega (arith, size, parts, same, few, wanted_few, short)

-- where a piece has none, everything was read
pub read_to_end : (start left left' : Option (List ℕ)) (before now : List ℕ) (count limit : ℕ) → Consumes start left before
    → TakesPiece left left' before now count → count ≡ 0 → length before ≤ limit + 1 → IsReadTo limit start left' now
read_to_end start left left' before now count limit taken piece none most =
    let size = ap (λ (l : List ℕ). length l) piece.added in
    let parts = length-append before piece.piece in
    let same = piece.size in
    record {
      consumed = taken_more start left left' before now count taken piece;
      most = omega (arith, size, parts, same, none, most);
      whole = λ short. piece.at_end none;
    }

-- past the limit nothing more is read
pub read_past : (start left : Option (List ℕ)) (bytes : List ℕ) (limit : ℕ) → Consumes start left bytes
    → length bytes ≤ limit + 1 → limit < length bytes → IsReadTo limit start left bytes
read_past start left bytes limit taken most long =
    record { consumed = taken; most = most; whole = λ short. absurd (omega (arith, short, long)) }

-- what was taken before a fault
pub taken_short : (start left left' : Option (List ℕ)) (bytes : List ℕ) (limit : ℕ) → Consumes start left bytes
    → Keeps left left' → length bytes ≤ limit
    → (taken : List ℕ) × Consumes start left' taken × (length taken ≤ limit)
taken_short start left left' bytes limit taken keeps short =
    (bytes, Consumes-kept start left left' bytes taken keeps, short)

-- errors are the same where results are
pub same_err : {X E : Type 0} (a b : E) → ◌≡◌ {A = Result X E} (Err a) (Err b) → a ≡ b
same_err a b is = cc
