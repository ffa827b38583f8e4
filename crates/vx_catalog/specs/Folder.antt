-- Where the text of a relation lies in a folder.
use Rattle.std.specs.Prelude.{ℕ, List, ◌++◌, codes}

-- where the text of a relation is: that of a relation NAME is in FOLDER/NAME.csv
abbrev pub path_in : List ℕ → List ℕ → List ℕ
path_in folder name = folder ++ codes "/" ++ name ++ codes ".csv"
