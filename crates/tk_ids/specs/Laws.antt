-- What holds of ids and their texts alone.
use Rattle.std.specs.Prelude.{◌≡◌, ◌≢◌, ℕ, List, Result, Err}
use Rattle.tk_ids.specs.declared.id_faults.IdFault.{IdFault}
use Rattle.tk_ids.specs.declared.id_faults.IdFault.TheVariants.{Memory}
use Rattle.tk_ids.specs.declared.descriptors.Descriptor.{Descriptor}
use Rattle.tk_ids.specs.declared.tables.TableFault.{TableFault}
use Rattle.tk_ids.specs.declared.tables.TableFault.TheVariants as table_faults
use Rattle.tk_ids.specs.IdText.{SegmentView, IsId, id_text}
use Rattle.tk_ids.specs.IdSegments.{segments_of}
use Rattle.tk_ids.specs.Answer.{IsReadAs}
use Rattle.tk_ids.specs.Table.{Addition, IsAddedAs, IsInsertedAs}

-- two ids never have one text
abbrev pub TextIsUnique : Type 0
TextIsUnique = (a b : List SegmentView) → IsId a → IsId b → id_text a ≡ id_text b → a ≡ b

-- the segments that are read of an id's text are the id
abbrev pub SegmentsAreRead : Type 0
SegmentsAreRead = (id : List SegmentView) → IsId id → segments_of (id_text id) ≡ id

-- a text has one answer beside `Memory`
abbrev pub AnswerIsUnique : Type 0
AnswerIsUnique =
    (text : List ℕ) (a b : Result (List SegmentView) IdFault) →
    IsReadAs text a → IsReadAs text b →
    a ≢ Err Memory → b ≢ Err Memory → a ≡ b

-- adding a descriptor has one answer beside `Memory`, and leaves one table
abbrev pub AdditionIsUnique : Type 0
AdditionIsUnique =
    (old new other : List Descriptor) (d : Addition) (a b : Result ℕ TableFault) →
    IsAddedAs old new d a → IsAddedAs old other d b →
    a ≢ Err table_faults.Memory → b ≢ Err table_faults.Memory → (a ≡ b) × (new ≡ other)

-- inserting a descriptor has one answer beside `Memory`, and leaves one table
abbrev pub InsertionIsUnique : Type 0
InsertionIsUnique =
    (old new other : List Descriptor) (d : Descriptor) (a b : Result ℕ TableFault) →
    IsInsertedAs old new d a → IsInsertedAs old other d b →
    a ≢ Err table_faults.Memory → b ≢ Err table_faults.Memory → (a ≡ b) × (new ≡ other)
