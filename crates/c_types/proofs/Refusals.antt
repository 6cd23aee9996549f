-- A record that is not laid out is not added.
use Rattle.std.proofs.Common.{List, Err, refl}
use Rattle.c_types.specs.declared.fault.RecordFault.{RecordFault}
use Rattle.c_types.specs.declared.fault.RecordFault.TheVariants.{TooBig, Memory}
use Rattle.c_types.specs.declared.layout.Layout.{Layout}
use Rattle.c_types.specs.declared.record.Record.{Record}
use Rattle.c_types.specs.Adding.{AddGives}
use Rattle.c_types.specs.Laying.{LayoutGives}

pub refused : (it : Layout) (old : List Record) (r : Record) (fault : RecordFault) → LayoutGives it (Err fault) → AddGives it.size old r old (Err fault)
refused it old r (TooBig n) h = (h.0, h.1, refl)
refused it old r (Memory want) h = (h, refl)
