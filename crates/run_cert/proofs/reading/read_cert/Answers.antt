use Rattle.std.proofs.Common.{inl, inr, ℕ, ◌+◌, ap, ap₂, refl}
use Rattle.run_cert.proofs.BadLines.{height_bad, root_bad, size_bad, head_has, cut_short, cert_has}
use Rattle.run_cert.proofs.reading.read_cert.Goals as goal

pub returns-in_default-clause-refusal : goal.returns-in_default-clause-refusal
returns-in_default-clause-refusal c = inl (refl, height_bad c.in_ok-command.ensures.start c.in_default.ensures)

pub returns-in_default-read_root-clause-refusal : goal.returns-in_default-read_root-clause-refusal
returns-in_default-read_root-clause-refusal c =
    inl (
      refl,
      root_bad _ c.in_ok-command.ensures.start c.in-Some.ensures c.has_root.ensures
          c.in_default-read_root.ensures (ap (λ (k : ℕ). 3 + k) c.from.ensures),
    )

pub returns-in_default-size_in-clause-refusal : goal.returns-in_default-size_in-clause-refusal
returns-in_default-size_in-clause-refusal c =
    inl (
      refl,
      size_bad c.cut_line.result.0.now c.cut_line.result.1.now _ c.in_ok-command.ensures.start
          c.in-Some.ensures c.has_root.ensures c.in-Some-read_root.ensures c.cut_line.ensures.line
          c.in_default-size_in.ensures (ap₂ (λ (k m : ℕ). 3 + k + m) c.from-2.ensures c.from-3.ensures),
    )

pub returns-in_default-cut_input-clause-refusal : goal.returns-in_default-cut_input-clause-refusal
returns-in_default-cut_input-clause-refusal c =
    let has = head_has c.cut_line.result.0.now c.cut_line.result.1.now c.in-Some-size_in.size
    (3 + c.from-2.result + c.from-3.result) c.in_ok-command.ensures.start c.in-Some.ensures c.has_root.ensures
    c.in-Some-read_root.ensures c.cut_line.ensures.parts c.in-Some-size_in.ensures
    (ap₂ (λ (k m : ℕ). 3 + k + m) c.from-2.ensures c.from-3.ensures) in
    inr (refl, cut_short has c.in_default-cut_input.ensures)

pub returns-clause-cert : goal.returns-clause-cert
returns-clause-cert c =
    let has = head_has c.cut_line.result.0.now c.cut_line.result.1.now c.in-Some-size_in.size
    (3 + c.from-2.result + c.from-3.result) c.in_ok-command.ensures.start c.in-Some.ensures c.has_root.ensures
    c.in-Some-read_root.ensures c.cut_line.ensures.parts c.in-Some-size_in.ensures
    (ap₂ (λ (k m : ℕ). 3 + k + m) c.from-2.ensures c.from-3.ensures) in
    cert_has c.in-Some-cut_input.input.now c.in-Some-cut_input.log_text.now has c.in-Some-cut_input.ensures
