-- Worked values, so that a wrong line or sign is found.
use Rattle.std.proofs.Common.{◌≡◌, [], ◌∷◌, ◌++◌, replicate, refl, codes}
use Rattle.std.specs.Fmt.{digits}
use Rattle.std.specs.List.{concat}
use Rattle.hex.proofs.OnLiterals.{hex_on_literals}
use Rattle.pop_stacks.specs.declared.stack_spec.StackSpec.TheVariants.{Key, Given}
use Rattle.pop_words.specs.declared.command.Command.TheVariants.{Formula, Tree}
use Rattle.run_cert.specs.Heads.{head_lines}
use Rattle.run_cert.specs.Certificates.{Certificate, cert_text}

-- a formula with given rows, one pop in
paused : Certificate
paused =
    record {
      head = record {
        command = Formula;
        stacks = Given ((0 ∷ 0 ∷ 1 ∷ []) ∷ []);
        height = 1048576;
        root = 1;
        size = 14;
      };
      input = codes "p cnf 1 1\n1 0\n";
      log_text = codes "log 2 1\npop 1 1 1:0\n";
    }

-- its text
text_of_paused : cert_text paused
    ≡ codes "cert 1 formula\nstacks 0,0,1\ninput 14\np cnf 1 1\n1 0\nlog 2 1\npop 1 1 1:0\n"
unfolding digits paused
text_of_paused = refl

-- no row

no_row : concat (head_lines (record { command = Formula; stacks = Given []; height = 1048576; root = 1; size = 0 }))
    ≡ codes "cert 1 formula\nstacks\ninput 0\n"
unfolding digits
no_row = refl

-- two empty rows
empty_rows : concat (head_lines (record {
  command = Formula;
  stacks = Given ([] ∷ [] ∷ []);
  height = 1048576;
  root = 1;
  size = 0;
}))
    ≡ codes "cert 1 formula\nstacks ;\ninput 0\n"
unfolding digits
empty_rows = refl

-- a tree with a key
keyed_tree : concat (head_lines (record {
  command = Tree;
  stacks = Key (replicate 32 171);
  height = 7;
  root = 2;
  size = 30;
}))
    ≡ codes "cert 1 tree\nkey abababababababababababababababababababababababababababababababab\n"
    ++ codes "height 7\nroot 2\ninput 30\n"
unfolding digits hex_on_literals
keyed_tree = refl
