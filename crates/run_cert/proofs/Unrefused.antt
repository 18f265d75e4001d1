-- The text of a certificate is not rejected: its first lines are those of the head, and the bytes of the input follow
-- them. Bytes have at most one error: there is at most one first invalid line, and at most one head.
use Rattle.std.proofs.Common.{inl, inr, ◌≡◌, ◌≢◌, ℕ, List, ◌++◌, length, refl, sym, ap, ap₂, ◌∙◌, arith}
use Rattle.std.specs.List.{concat}
use Rattle.std.proofs.lemmas.List.{length-append}
use Rattle.pop_log.specs.TextLines.{lines_with_ends}
use Rattle.pop_words.proofs.OneJob.{same_first_bad}
use Rattle.run_cert.specs.declared.cert_refusal.CertRefusal.{CertRefusal}
use Rattle.run_cert.specs.declared.cert_refusal.CertRefusal.TheVariants.{Malformed, OutOfMemory}
use Rattle.run_cert.specs.Heads.{Head, head_lines, IsHead}
use Rattle.run_cert.specs.Refusals.{HaveHead, IsCutShort, IsCertRefusal}
use Rattle.run_cert.specs.Certificates.{Certificate, IsCertOf}
use Rattle.run_cert.proofs.HeadWords.{head_first}
use Rattle.run_cert.proofs.OneText.{heads_cut}

-- bytes that begin with a head have its lines
have_head : (bytes rest : List ℕ) (h : Head) → IsHead h → bytes ≡ concat (head_lines h) ++ rest
    → HaveHead (lines_with_ends bytes)
have_head bytes rest h is same = (h, is, lines_with_ends rest, ap lines_with_ends same ∙ head_first h rest is)

-- it is refused for want of memory alone
pub unrefused : (bytes : List ℕ) (cert : Certificate) → IsCertOf bytes cert → (refusal : CertRefusal)
    → IsCertRefusal bytes refusal → refusal ≡ OutOfMemory
unrefused bytes cert is OutOfMemory refused = refl
unrefused bytes cert is (Malformed place code) (inl (same, bad)) =
    absurd (bad.outside (have_head bytes (cert.input ++ cert.log_text) cert.head is.is.head is.text_is))
unrefused bytes cert is (Malformed place code) (inr (same, short)) =
    let heads = heads_cut short.h cert.head short.rest (cert.input ++ cert.log_text) short.is is.is.head
    (sym short.bytes_are ∙ is.text_is) in
    let rest : length short.rest ≡ length (cert.input ++ cert.log_text) = ap length heads.1 in
    let sizes : short.h.size ≡ cert.head.size = ap (λ (h : Head). h.size) heads.0 in
    absurd (omega (arith, rest, length-append cert.input cert.log_text, sizes, short.few, is.is.size))

-- the input is cut short at one line
one_cut : (bytes : List ℕ) (line other : ℕ) → IsCutShort bytes line → IsCutShort bytes other → line ≡ other
one_cut bytes line other short short' =
    let heads = heads_cut short.h short'.h short.rest short'.rest short.is short'.is
    (sym short.bytes_are ∙ short'.bytes_are) in
    short.line_is ∙ ap (λ (h : Head). length (head_lines h)) heads.0 ∙ sym short'.line_is

-- bytes are refused in one way
pub one_refusal : (bytes : List ℕ) (a b : CertRefusal) → a ≢ OutOfMemory → b ≢ OutOfMemory → IsCertRefusal bytes a
    → IsCertRefusal bytes b → a ≡ b
one_refusal bytes OutOfMemory b some some' h h' = absurd (some refl)
one_refusal bytes (Malformed place code) OutOfMemory some some' h h' = absurd (some' refl)
one_refusal bytes (Malformed place code) (Malformed other code') some some' (inl (is, bad)) (inl (is', bad')) =
    ap₂ Malformed (same_first_bad HaveHead (lines_with_ends bytes) place other bad bad') (is ∙ sym is')
one_refusal bytes (Malformed place code) (Malformed other code') some some' (inl (is, bad)) (inr (is', short)) =
    absurd (bad.outside (have_head bytes short.rest short.h short.is short.bytes_are))
one_refusal bytes (Malformed place code) (Malformed other code') some some' (inr (is, short)) (inl (is', bad)) =
    absurd (bad.outside (have_head bytes short.rest short.h short.is short.bytes_are))
one_refusal bytes (Malformed place code) (Malformed other code') some some' (inr (is, short)) (inr (is', short')) =
    ap₂ Malformed (one_cut bytes place other short short') (is ∙ sym is')
