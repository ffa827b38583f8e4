-- The labels of a graph in the language of Graphviz.
--
-- Graphviz reads a label twice. First as a text in double quotes, where a backslash before a quote is dropped. Then it draws what it read: there `&` begins the
-- name or the number of a character, as `&lt;` does, and a backslash a character with a meaning of its own, as `\n` ends a line and `\N` is the name of a box.
use Rattle.std.specs.Prelude.{ℕ, ◌+◌, ◌==◌, ◌++◌, List, codes, nat_lt, if◌then◌else◌}
use Rattle.std.specs.List.{flat_map}
use Rattle.std.specs.Char.{encode_utf8}
use Rattle.std.specs.Str.{chars}

-- what stands for a control character, which no picture can have: of the characters below 32 the sign for it, which is U+2400 and its number on, and of 127 the one at U+2421
abbrev pub shown : ℕ → ℕ
shown c = if nat_lt c 32 then 9216 + c else if c == 127 then 9249 else c

-- a character of a text inside of a label, which Graphviz draws as this very character, or as the sign for it
abbrev pub inside : ℕ → List ℕ
inside c =
    if c == 34 then codes "\\\""
    else if c == 92 then codes "\\\\"
    else if c == 38 then codes "&amp;"
    else encode_utf8 (shown c)

-- a text inside of a label
abbrev pub insides : List ℕ → List ℕ
insides words = flat_map inside (chars words)

-- a label with this inside, whose lines are parted by a backslash and an n
abbrev pub label_of : List ℕ → List ℕ
label_of inside = codes "label=\"" ++ (inside ++ codes "\"")

-- a label of one line
abbrev pub label : List ℕ → List ℕ
label words = label_of (insides words)
