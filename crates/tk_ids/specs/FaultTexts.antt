-- The texts of the faults.
use Rattle.std.specs.Prelude.{ℕ, List, ◌++◌, codes}
use Rattle.std.specs.Fmt.{decimal}
use Rattle.tk_ids.specs.declared.id_faults.IdFault.{IdFault}
use Rattle.tk_ids.specs.declared.id_faults.IdFault.TheVariants as id_faults
use Rattle.tk_ids.specs.declared.tables.TableFault.{TableFault}
use Rattle.tk_ids.specs.declared.tables.TableFault.TheVariants as table_faults
use Rattle.tk_ids.specs.declared.tables.LockFault.{LockFault}
use Rattle.tk_ids.specs.declared.tables.LockFault.TheVariants as lock_faults

abbrev pub id_fault_text : IdFault → List ℕ
id_fault_text id_faults.Empty = codes "text is empty"
id_fault_text (id_faults.BadSegment at) = codes "bad segment at byte " ++ decimal at
id_fault_text (id_faults.BadEscape at) = codes "bad escape at byte " ++ decimal at
id_fault_text id_faults.TooLong = codes "id is too long"
id_fault_text id_faults.Memory = codes "out of memory"

abbrev pub table_fault_text : TableFault → List ℕ
table_fault_text table_faults.NoParent = codes "no such parent"
table_fault_text table_faults.Twice = codes "id is already in the table"
table_fault_text table_faults.Full = codes "table is full"
table_fault_text (table_faults.Id fault) = id_fault_text fault
table_fault_text table_faults.Memory = codes "out of memory"

abbrev pub lock_fault_text : LockFault → List ℕ
lock_fault_text lock_faults.NoDescriptor = codes "no such descriptor"
lock_fault_text lock_faults.NoName = codes "lock has no name"
lock_fault_text lock_faults.Memory = codes "out of memory"
