-- Words are UTF-8 by their type.
use Rattle.std.proofs.Common.{List, String, map, get_or, string_bytes, All, IsUtf8}
use Rattle.std.proofs.lemmas.List.Elements.{All-map}
use Rattle.std.proofs.lemmas.Str.{IsUtf8-string_bytes}

-- so are all of a list
pub words_utf8 : {Z : Type 0} (words : List (String Z)) → All IsUtf8 (map string_bytes words)
words_utf8 words = All-map IsUtf8 string_bytes words (λ k d less. IsUtf8-string_bytes (get_or words k d))
