-- How what a check answers is put into words. Assumes nothing.
use Rattle.std.specs.Prelude.{ℕ, List, ◌++◌, codes, decimal}
use Rattle.catalogue.specs.declared.counts.Counts.{Counts}
use Rattle.catalogue.specs.declared.fault.Fault.{Fault}
use Rattle.catalogue.specs.declared.fault.Layer.{Layer}
use Rattle.catalogue.specs.declared.fault.Layer.TheVariants.{Record, Sheet, Catalogue}
use Rattle.catalogue.specs.declared.make.Make.{Make}
use Rattle.catalogue.specs.declared.make.Make.TheVariants.{Fit, Bar, Load}

abbrev pub layer_word : Layer → List ℕ
layer_word Record = codes "record"
layer_word Sheet = codes "sheet"
layer_word Catalogue = codes "catalogue"

abbrev pub make_word : Make → List ℕ
make_word Fit = codes "fit"
make_word Bar = codes "bar"
make_word Load = codes "load"

abbrev pub counts_line : Counts → List ℕ
counts_line c =
    codes "slots " ++ (decimal c.slots ++ (codes " sheets " ++ (decimal c.sheets ++ (codes " rows " ++ decimal c.rows))))

abbrev pub fault_line : Fault → List ℕ
fault_line f =
    codes "fault " ++ (decimal f.number ++ (codes " " ++ (layer_word f.layer ++ (codes " " ++ decimal f.place))))
