-- What readers of a node's entries and files hand on.
use Rattle.std.specs.Prelude.{◌≡◌, Bool, true, ℕ, List, map}
use Rattle.std.specs.List.{list_all, list_any}
use Rattle.serde_json.specs.Data.{Data}
use Rattle.tk_events.specs.Event.{is_strictly_increasing, is_lawful}
use Rattle.tk_events.specs.declared.kinds.Kind.TheVariants.{File}
use Rattle.tk_events.specs.declared.payloads.Payload.TheVariants.{Path}
use Rattle.tk_plan_json.specs.Contents.{json_entry, files_of}
use Rattle.tk_plan_json.specs.Contents.{repeats as repeats_in}
use Rattle.tk_plan_json.specs.declared.members.member_values.Reports.{Reports}

-- the pairs of the entries, and whether an entry has a key twice
pub record AreReports (ds : List Data) (r : Reports) : Type 0 where
  pub entries : r.entries ≡ map json_entry ds
  pub increasing : list_all is_strictly_increasing r.entries ≡ true
  pub repeats : r.repeats ≡ list_any repeats_in ds

-- the paths of the files, which may be published
pub record AreFiles (takes_files : Bool) (d : Data) (files : List (List ℕ)) : Type 0 where
  pub paths : files ≡ files_of takes_files d
  pub lawful : list_all (λ p. is_lawful File (Path p)) files ≡ true
