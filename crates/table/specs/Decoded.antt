-- A record as the code holds it.
use Rattle.model.specs.Records.{Fields}
use Rattle.table.specs.declared.Record.{Record}

-- the fields of a record that is taken apart
abbrev pub fields_of : Record → Fields
fields_of r = record { kind = r.kind; a = r.a; b = r.b; c = r.c; d = r.d; e = r.e }
