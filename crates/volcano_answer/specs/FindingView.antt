-- Why no catalog is found in files, as it is held.
use Rattle.std.specs.Prelude.{ℕ, List, Bool, codes}
use Rattle.vx_catalog_bytes.specs.Stored.{Stored}
use Rattle.volcano_answer.specs.declared.command_line.ArgumentFault.{ArgumentFault}
use Rattle.volcano_answer.specs.declared.command_line.ArgumentFault.TheVariants as fault
use Rattle.volcano_answer.specs.Usage.{Names}
use Rattle.volcano_answer.specs.Files.{IsFileRefusal}
use Rattle.volcano_answer.specs.Finding.{IsNoTablePath, IsWrongPath, CatalogIsRefused}

-- a path is that of no table, and the message names it; or its file has no bytes
abbrev pub IsPathFault : (List ℕ → Stored) → (List ℕ → Bool) → List ℕ → ArgumentFault → Type 0
IsPathFault files reliable path (fault.Usage text) = IsNoTablePath path × Names (codes "volcano: catalog ") path text.items
IsPathFault files reliable path (fault.Refused e) = IsFileRefusal (files path) (reliable path) path e
IsPathFault files reliable path (fault.Failing lines) = ⊥

-- one of the paths is that of no table, and the message names it; or the catalog is refused
abbrev pub IsCatalogFault : (List ℕ → Stored) → (List ℕ → Bool) → List (List ℕ) → ArgumentFault → Type 0
IsCatalogFault files reliable paths (fault.Usage text) = (path : List ℕ) × IsWrongPath paths path × Names (codes "volcano: catalog ") path text.items
IsCatalogFault files reliable paths (fault.Refused e) = CatalogIsRefused files reliable paths e
IsCatalogFault files reliable paths (fault.Failing lines) = ⊥
