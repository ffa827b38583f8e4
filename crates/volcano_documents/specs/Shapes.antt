-- The words that shapes of values know: those of which a text has to be one, and the names of an object's members.
use Rattle.std.specs.Prelude.{◌≡◌, ℕ, List, [], ◌∷◌, map, codes, Contains}
use Rattle.volcano_documents.specs.declared.shapes.Shape.{Shape}
use Rattle.volcano_documents.specs.declared.shapes.Shape.TheVariants.{Word, Bundle, Catalog, Relation, Column, Directed, Plan, Range, Claim, HashPart, RangePart, OtherPart, Condition, Renamed, Answer, Call, Value, OtherOperand, MadeCall, MadeValue, CountedRows, ColumnAggregate, Scan, Select, Project, Distinct, Sort, Limit, Union, InnerJoin, SemiJoin, PlainGroup, PartialGroup, FinalGroup, HashExchange, RangeExchange, SizedExchange, Gather, Concat}
use Rattle.volcano_documents.specs.declared.shapes.Form.{Form}
use Rattle.volcano_documents.specs.declared.shapes.Form.TheVariants.{Object}
use Rattle.volcano_documents.specs.declared.shapes.Member.{Member}
use Rattle.volcano_documents.specs.Words.{words_of}

abbrev pub names_of : List Member → List (List ℕ)
names_of members = map (λ m. m.name.now) members

-- the words that a shape knows
abbrev pub known_words : Shape → List (List ℕ)
known_words (Word words) = words_of words
known_words Bundle = codes "command" ∷ codes "catalog" ∷ codes "plan" ∷ codes "tables" ∷ codes "sizes" ∷ codes "packet" ∷ codes "morsel" ∷ codes "slack" ∷ codes "mode" ∷ []
known_words Catalog = codes "relations" ∷ []
known_words Relation = codes "name" ∷ codes "columns" ∷ codes "keys" ∷ codes "order" ∷ []
known_words Column = codes "name" ∷ codes "type" ∷ []
known_words Directed = codes "column" ∷ codes "desc" ∷ []
known_words Plan = codes "sizes" ∷ codes "ranges" ∷ codes "total" ∷ codes "derive" ∷ codes "root" ∷ []
known_words Range = codes "name" ∷ codes "bounds" ∷ []
known_words Claim = codes "part" ∷ codes "order" ∷ codes "keys" ∷ []
known_words HashPart = codes "hash" ∷ codes "columns" ∷ []
known_words RangePart = codes "range" ∷ codes "column" ∷ []
known_words OtherPart = codes "hash" ∷ codes "columns" ∷ codes "range" ∷ codes "column" ∷ []
known_words Condition = codes "column" ∷ codes "op" ∷ codes "value" ∷ codes "column2" ∷ []
known_words Renamed = codes "column" ∷ codes "as" ∷ []
known_words Answer = codes "fn" ∷ codes "of" ∷ []
known_words Call = codes "fn" ∷ codes "of" ∷ codes "type" ∷ []
known_words Value = codes "value" ∷ []
known_words OtherOperand = codes "value" ∷ codes "fn" ∷ codes "of" ∷ codes "type" ∷ []
known_words MadeCall = codes "fn" ∷ codes "of" ∷ codes "type" ∷ codes "as" ∷ []
known_words MadeValue = codes "value" ∷ codes "as" ∷ []
known_words CountedRows = codes "fn" ∷ codes "as" ∷ []
known_words ColumnAggregate = codes "fn" ∷ codes "column" ∷ codes "as" ∷ []
known_words Scan = codes "op" ∷ codes "relation" ∷ codes "mode" ∷ codes "size" ∷ codes "prefix" ∷ codes "claim" ∷ []
known_words Select = codes "op" ∷ codes "where" ∷ codes "claim" ∷ codes "input" ∷ []
known_words Project = codes "op" ∷ codes "columns" ∷ codes "claim" ∷ codes "input" ∷ []
known_words Distinct = codes "op" ∷ codes "columns" ∷ codes "claim" ∷ codes "input" ∷ []
known_words Sort = codes "op" ∷ codes "phase" ∷ codes "columns" ∷ codes "claim" ∷ codes "input" ∷ []
known_words Limit = codes "op" ∷ codes "rows" ∷ codes "claim" ∷ codes "input" ∷ []
known_words Union = codes "op" ∷ codes "claim" ∷ codes "left" ∷ codes "right" ∷ []
known_words InnerJoin = codes "op" ∷ codes "method" ∷ codes "on" ∷ codes "kind" ∷ codes "claim" ∷ codes "left" ∷ codes "right" ∷ []
known_words SemiJoin = codes "op" ∷ codes "method" ∷ codes "kind" ∷ codes "on" ∷ codes "where" ∷ codes "claim" ∷ codes "left" ∷ codes "right" ∷ []
known_words PlainGroup = codes "op" ∷ codes "by" ∷ codes "aggregates" ∷ codes "phase" ∷ codes "claim" ∷ codes "input" ∷ []
known_words PartialGroup = codes "op" ∷ codes "phase" ∷ codes "by" ∷ codes "aggregates" ∷ codes "claim" ∷ codes "input" ∷ []
known_words FinalGroup = codes "op" ∷ codes "phase" ∷ codes "claim" ∷ codes "input" ∷ []
known_words HashExchange = codes "op" ∷ codes "kind" ∷ codes "size" ∷ codes "route" ∷ codes "columns" ∷ codes "merge" ∷ codes "claim" ∷ codes "input" ∷ []
known_words RangeExchange = codes "op" ∷ codes "kind" ∷ codes "size" ∷ codes "route" ∷ codes "column" ∷ codes "merge" ∷ codes "claim" ∷ codes "input" ∷ []
known_words SizedExchange = codes "op" ∷ codes "kind" ∷ codes "size" ∷ codes "merge" ∷ codes "claim" ∷ codes "input" ∷ []
known_words Gather = codes "op" ∷ codes "kind" ∷ codes "merge" ∷ codes "claim" ∷ codes "input" ∷ []
known_words Concat = codes "op" ∷ codes "kind" ∷ codes "claim" ∷ codes "input" ∷ []
known_words _ = []

-- an object is looked at by the members whose names its shape knows
abbrev pub KnowsMembers : Shape → Form → Type 0
KnowsMembers shape (Object members rule) = names_of members.now ≡ known_words shape
KnowsMembers shape _ = Unit {0}

-- a word that some shape knows
abbrev pub IsKnownWord : List ℕ → Type 0
IsKnownWord word = (shape : Shape) × Contains (known_words shape) word
