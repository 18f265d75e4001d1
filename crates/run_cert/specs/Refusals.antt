-- Why bytes are not a certificate.
use Rattle.std.specs.Prelude.{◌≡◌, ◌⊎◌, ℕ, ◌<◌, List, ◌++◌, length, ⊤}
use Rattle.std.specs.List.{concat}
use Rattle.pop_model.specs.Languages.{IsFirstBad}
use Rattle.pop_log.specs.TextLines.{lines_with_ends}
use Rattle.run_cert.specs.declared.cert_refusal.CertRefusal.{CertRefusal}
use Rattle.run_cert.specs.declared.cert_refusal.CertRefusal.TheVariants.{Malformed, OutOfMemory}
use Rattle.run_cert.specs.Heads.{Head, head_lines, IsHead}

-- the lines begin with those of a head
abbrev pub HaveHead : List (List ℕ) → Type 0
HaveHead lines = (h : Head) × IsHead h × (rest : List (List ℕ)) × (lines ≡ head_lines h ++ rest)

-- the head is valid, and declares more bytes of input than follow it; the line is its last
pub record IsCutShort (bytes : List ℕ) (line : ℕ) : Type 0 where
  pub h : Head
  pub is : IsHead h
  pub rest : List ℕ
  pub bytes_are : bytes ≡ concat (head_lines h) ++ rest
  pub few : length rest < h.size
  pub line_is : line ≡ length (head_lines h)

-- Code 21 has the first invalid line of the head, from 1; a missing line has the number that it
-- would have. Code 22 has the line with the size of the input. Memory may run out at any place.
abbrev pub IsCertRefusal : List ℕ → CertRefusal → Type 0
IsCertRefusal bytes (Malformed line code) =
    ((code ≡ 21) × IsFirstBad HaveHead (lines_with_ends bytes) line)
    ⊎ ((code ≡ 22) × IsCutShort bytes line)
IsCertRefusal bytes OutOfMemory = ⊤
