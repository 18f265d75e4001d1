-- Tickets in two lists: more uses, and more heads.
use Rattle.std.proofs.Common.{◌≡◌, ℕ, ◌+◌, ◌<◌, ◌≤◌, List, [], ◌∷◌, ◌++◌, length, take, drop, get_or, refl, sym, ap, ap₂, ◌∙◌, arith}
use Rattle.std.proofs.lemmas.List.{nil_from_length, take-append-le, drop-append-le, drop-drop, length-drop, length-append, drop_all, take_all, drop_more}
use Rattle.pop_model.specs.Logs.{LogRecord}
use Rattle.claim_words.specs.Machine.{Use}
use Rattle.claim_words.specs.KeptLogs.{Head, record_of, many_uses, tickets_of}
use Rattle.claim_words.proofs.Totals.{total-append}

-- uses that come behind change no ticket
pub tickets-more : (hs : List Head) (us vs : List (ℕ × ℕ × ℕ)) → many_uses hs ≤ length us
    → tickets_of hs (us ++ vs) ≡ tickets_of hs us
tickets-more [] us vs h = refl
tickets-more (x ∷ hs) us vs h =
    let some = length-drop x.2 us in
    ap₂ (λ (l : List (ℕ × ℕ × ℕ)) (ts : List (ℕ × LogRecord)). (x.0, record_of x.1 l) ∷ ts)
    (take-append-le x.2 us vs (omega arith))
    (ap (tickets_of hs) (drop-append-le x.2 us vs (omega arith)) ∙ tickets-more hs (drop x.2 us) vs (omega arith))

-- a head more has the uses behind those of the others
pub tickets-push : (hs : List Head) (h : Head) (us : List (ℕ × ℕ × ℕ))
    → tickets_of (hs ++ h ∷ []) us ≡ tickets_of hs us ++ (h.0, record_of h.1 (take h.2 (drop (many_uses hs) us))) ∷ []
tickets-push [] h us = refl
tickets-push (x ∷ hs) h us =
    let behind : drop (many_uses hs) (drop x.2 us) ≡ drop (many_uses (x ∷ hs)) us = drop-drop (many_uses hs) x.2 us in
    ap (λ (ts : List (ℕ × LogRecord)). (x.0, record_of x.1 (take x.2 us)) ∷ ts)
    (tickets-push hs h (drop x.2 us)
    ∙ ap (λ (l : List (ℕ × ℕ × ℕ)). tickets_of hs (drop x.2 us) ++ (h.0, record_of h.1 (take h.2 l)) ∷ []) behind)

-- with all uses that are left
pub tickets-seal : (hs : List Head) (t u n : ℕ) (us : List (ℕ × ℕ × ℕ)) → n ≡ length (drop (many_uses hs) us)
    → tickets_of (hs ++ (t, u, n) ∷ []) us ≡ tickets_of hs us ++ (t, record_of u (drop (many_uses hs) us)) ∷ []
tickets-seal hs t u n us is = tickets-push hs (t, u, n) us
    ∙ ap (λ (l : List (ℕ × ℕ × ℕ)). tickets_of hs us ++ (t, record_of u l) ∷ [])
    (ap (λ (i : ℕ). take i (drop (many_uses hs) us)) is ∙ take_all (length (drop (many_uses hs) us)) (drop (many_uses hs) us) (omega arith))

-- no use is loose once a head has them
pub drop-seal : (hs : List Head) (t u n : ℕ) (us : List (ℕ × ℕ × ℕ)) → n ≡ length (drop (many_uses hs) us)
    → drop (many_uses (hs ++ (t, u, n) ∷ [])) us ≡ []
drop-seal hs t u n us is =
    let sum : many_uses (hs ++ (t, u, n) ∷ []) ≡ many_uses hs + length (drop (many_uses hs) us) = omega
    (arith, total-append (λ (h : Head). h.2) hs ((t, u, n) ∷ []), is) in
    ap (λ (i : ℕ). drop i us) sum ∙ sym (drop-drop (length (drop (many_uses hs) us)) (many_uses hs) us)
    ∙ drop_all (length (drop (many_uses hs) us)) (drop (many_uses hs) us) (omega arith)

-- what is left of the tickets, from a head and a use on
abbrev pub Left : List Head → List (ℕ × ℕ × ℕ) → ℕ → ℕ → List (ℕ × LogRecord)
Left hs us j at = tickets_of (drop j hs) (drop at us)

-- the next of them
pub left-turn : (hs : List Head) (us : List (ℕ × ℕ × ℕ)) (j at : ℕ) (d : Head) → j < length hs
    → Left hs us j at ≡ (
      (get_or hs j d).0,
      record_of (get_or hs j d).1
          (take (get_or hs j d).2 (drop at us)),
    ) ∷ Left hs us (j + 1) (at + (get_or hs j d).2)
left-turn hs us j at d h =
    let x = get_or hs j d in
    ap (λ (l : List Head). tickets_of l (drop at us)) (drop_more hs j d h)
    ∙ ap (λ (l : List (ℕ × ℕ × ℕ)). (x.0, record_of x.1 (take x.2 (drop at us))) ∷ tickets_of (drop (j + 1) hs) l)
    (drop-drop x.2 at us)

-- the tickets of both, where the first heads have all of the first uses
pub tickets-both : (hs gs : List Head) (us vs : List (ℕ × ℕ × ℕ)) → many_uses hs ≤ length us
    → length (drop (many_uses hs) us) ≡ 0
    → tickets_of (hs ++ gs) (us ++ vs) ≡ tickets_of hs us ++ tickets_of gs vs
tickets-both [] gs us vs h none = ap (λ (l : List (ℕ × ℕ × ℕ)). tickets_of gs (l ++ vs)) (nil_from_length us none)
tickets-both (x ∷ hs) gs us vs h none =
    let some = length-drop x.2 us in
    let behind : length (drop (many_uses hs) (drop x.2 us)) ≡ 0 = ap length (drop-drop (many_uses hs) x.2 us) ∙ none in
    ap₂ (λ (l : List (ℕ × ℕ × ℕ)) (ts : List (ℕ × LogRecord)). (x.0, record_of x.1 l) ∷ ts)
    (take-append-le x.2 us vs (omega arith))
    (ap (tickets_of (hs ++ gs)) (drop-append-le x.2 us vs (omega arith))
    ∙ tickets-both hs gs (drop x.2 us) vs (omega arith) behind)

-- no use is loose where none of either was
pub loose-both : (hs gs : List Head) (us vs : List (ℕ × ℕ × ℕ)) → many_uses hs ≤ length us → many_uses gs ≤ length vs
    → length (drop (many_uses hs) us) ≡ 0 → length (drop (many_uses gs) vs) ≡ 0
    → (many_uses (hs ++ gs) ≤ length (us ++ vs)) × (length (drop (many_uses (hs ++ gs)) (us ++ vs)) ≡ 0)
loose-both hs gs us vs h g none empty =
    let a = length-drop (many_uses hs) us in
    let b = length-drop (many_uses gs) vs in
    let sum = total-append (λ (x : Head). x.2) hs gs in
    let long = length-append us vs in
    let fits : many_uses (hs ++ gs) ≤ length (us ++ vs) = omega arith in
    let d = length-drop (many_uses (hs ++ gs)) (us ++ vs) in
    (fits, omega arith)

-- Two lists of heads end to end, and two of uses, where no use was loose.
module _ (hs gs : List Head) (us vs : List Use) (heads old_heads : List Head) (uses old_uses : List Use)
    (kept_heads : old_heads ≡ hs) (put_heads : heads ≡ old_heads ++ gs) (kept_uses : old_uses ≡ us)
    (put_uses : uses ≡ old_uses ++ vs) (h : many_uses hs ≤ length us) (none : length (drop (many_uses hs) us) ≡ 0)
  where
    -- the heads are both
    heads_are : heads ≡ hs ++ gs
    heads_are = put_heads ∙ ap (λ (l : List Head). l ++ gs) kept_heads

    -- so are the uses
    uses_are : uses ≡ us ++ vs
    uses_are = put_uses ∙ ap (λ (l : List Use). l ++ vs) kept_uses

    -- the tickets are both
    pub tickets-joined : tickets_of heads uses ≡ tickets_of hs us ++ tickets_of gs vs
    tickets-joined = ap₂ tickets_of heads_are uses_are ∙ tickets-both hs gs us vs h none

    -- the heads have no more than all uses, and none is loose
    pub loose-joined : many_uses gs ≤ length vs → length (drop (many_uses gs) vs) ≡ 0
        → (many_uses heads ≤ length uses) × (length (drop (many_uses heads) uses) ≡ 0)
    loose-joined g empty =
        let both = loose-both hs gs us vs h g none empty in (
          omega (arith, both.0, ap many_uses heads_are, ap length uses_are),
          ap₂ (λ (hs : List Head) (us : List Use). length (drop (many_uses hs) us)) heads_are uses_are ∙ both.1,
        )
