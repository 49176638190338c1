-- What clauses cite of records, selections, statistics and texts.
pub use Rattle.tk_lanes.specs.Lists.{positions}
pub use Rattle.tk_record.specs.Entries.{desc, with_entry}
pub use Rattle.tk_record.specs.Record.{IsRecord, IsViewOf, fault_of}
pub use Rattle.tk_record.specs.Selections.{all_of, column_test_of, events_of, filtered_by}
pub use Rattle.tk_record.specs.Selections.{intersected, passes, positioned, positions_of}
pub use Rattle.tk_record.specs.Selections.{selection_name, selects}
pub use Rattle.tk_record.specs.Statistics.{expected_of, is_counted, mismatches, nothing_expected}
pub use Rattle.tk_record.specs.Statistics.{statistic_rows, statistics_of, with_expected}
pub use Rattle.tk_record_text.specs.Text.{text, HasText}
pub use Rattle.tk_streams.specs.Stream.{AppendsPrefix}
