-- The text of a certificate: its head, its input and the text of a log.
use Rattle.std.specs.Prelude.{◌≡◌, ℕ, ◌^◌, Bool, true, false, List, ◌++◌, length}
use Rattle.std.specs.List.{concat}
use Rattle.pop_stacks.specs.declared.stack_spec.StackSpec.{StackSpec}
use Rattle.pop_stacks.specs.declared.stack_spec.StackSpec.TheVariants.{Key, Given}
use Rattle.pop_words.specs.declared.job.Job.{Job}
use Rattle.run_cert.specs.Heads.{Head, has_root, head_lines, IsHead}

-- what a certificate holds
pub record Certificate : Type 0 where
  pub head : Head
  pub input : List ℕ
  pub log_text : List ℕ

-- the text of a certificate
abbrev pub cert_text : Certificate → List ℕ
cert_text cert = concat (head_lines cert.head) ++ (cert.input ++ cert.log_text)

-- the head is valid, and there are as many bytes of input as it declares
pub record IsCertificate (cert : Certificate) : Type 0 where
  pub head : IsHead cert.head
  pub size : length cert.input ≡ cert.head.size

-- these bytes are the text of the certificate
pub record IsCertOf (bytes : List ℕ) (cert : Certificate) : Type 0 where
  pub is : IsCertificate cert
  pub text_is : bytes ≡ cert_text cert

-- the height in a head: that of keyed stacks, and otherwise the default of `--height`
abbrev pub height_said : StackSpec → ℕ → ℕ
height_said (Key key) height = height
height_said (Given rows) height = 2 ^ 20

-- the root in a head; 1 if the command has none
abbrev pub root_said : Bool → ℕ → ℕ
root_said true root = root
root_said false root = 1

-- the head of a job for this many bytes of input
abbrev pub head_of : Job → ℕ → Head
head_of job size =
    record {
      command = job.command;
      stacks = job.stacks;
      height = height_said job.stacks job.height;
      root = root_said (has_root job.command) job.root;
      size = size;
    }

-- the certificate of a job, an input and the text of a log
abbrev pub cert_of : Job → List ℕ → List ℕ → Certificate
cert_of job input log_text =
    record { head = head_of job (length input); input = input; log_text = log_text }
