-- What tables say, as lists. Assumes nothing.
use Rattle.std.specs.Prelude.{List, map, ℤ}
use Rattle.load.specs.declared.table.Table.{Table}

-- of each position, the weights of its options
abbrev pub weights_in : Table → List (List ℤ)
weights_in t = map (λ w. w.amounts) t.weights

-- of each sheet
abbrev pub tables_in : List Table → List (List (List ℤ))
tables_in ts = map weights_in ts
