-- The definitions that public contracts cite, passed on from the crates below, so that a contract over `bson` needs no other crate. Where two crates have a
-- file of one name, that of a subject is first in the name here.
pub use Rattle.bson_dates.specs.DatePrinted
pub use Rattle.bson_dates.specs.DateText
pub use Rattle.bson_base.specs.BsonView
pub use Rattle.bson_base.specs.Encoded
pub use Rattle.bson_base.specs.Folded
pub use Rattle.bson_base.specs.Instant
pub use Rattle.bson_kinds.specs.Kind
pub use Rattle.bson_base.specs.Made
pub use Rattle.bson_base.specs.Next as TreeNext
pub use Rattle.bson_base.specs.Opened
pub use Rattle.bson_kinds.specs.Outcome
pub use Rattle.bson_base.specs.Pairs
pub use Rattle.bson_base.specs.Parsed
pub use Rattle.bson_base.specs.RegexView
pub use Rattle.bson_kinds.specs.Reserved
pub use Rattle.bson_base.specs.Same as TreeSame
pub use Rattle.bson_base.specs.Sorted
pub use Rattle.bson_base.specs.Sound
pub use Rattle.bson_kinds.specs.Text
pub use Rattle.bson_base.specs.Tree
pub use Rattle.bson_recast_run.specs.Made as MadeRows
pub use Rattle.bson_io.specs.Adapters
pub use Rattle.bson_io.specs.Ends
pub use Rattle.bson_io.specs.Memory
pub use Rattle.bson_io.specs.Output
pub use Rattle.bson_io.specs.SteadySink
pub use Rattle.bson_io.specs.SteadySource
pub use Rattle.bson_shape.specs.Answers
pub use Rattle.bson_shape.specs.FirstRefusal
pub use Rattle.bson_shape.specs.Form
pub use Rattle.bson_shape.specs.Fronts
pub use Rattle.bson_shape.specs.Guarded
pub use Rattle.bson_shape.specs.Leaf
pub use Rattle.bson_shape.specs.declared.leaf.Leaf.TheVariants as Leaves
pub use Rattle.bson_shape.specs.Levels
pub use Rattle.bson_shape.specs.Machine
pub use Rattle.bson_shape.specs.Makers
pub use Rattle.bson_shape.specs.Notation
pub use Rattle.bson_shape.specs.Refusals
pub use Rattle.bson_shape.specs.Same as ShapeSame
pub use Rattle.bson_shape.specs.ShapeView
pub use Rattle.bson_rawdoc.specs.Cut
pub use Rattle.bson_rawdoc.specs.DocumentTree
pub use Rattle.bson_rawdoc.specs.DocumentView
pub use Rattle.bson_rawdoc.specs.Envelope
pub use Rattle.bson_rawdoc.specs.Extent
pub use Rattle.bson_rawdoc.specs.Get
pub use Rattle.bson_rawdoc.specs.Next as RawNext
pub use Rattle.bson_rawdoc.specs.Node
pub use Rattle.bson_kinds.specs.Piece
pub use Rattle.bson_faults.specs.Printed as RawPrinted
pub use Rattle.bson_rawdoc.specs.RawValue
pub use Rattle.bson_rawdoc.specs.ValueView
pub use Rattle.bson_rawdoc.specs.Walk
pub use Rattle.bson_datum.specs.Access
pub use Rattle.bson_values.specs.ByteStrView
pub use Rattle.bson_values.specs.Cause
pub use Rattle.bson_values.specs.ErrorView
pub use Rattle.bson_datum.specs.Borrowed
pub use Rattle.bson_values.specs.Marked
pub use Rattle.bson_datum.specs.MarkedView
pub use Rattle.bson_values.specs.PathView
pub use Rattle.bson_values.specs.Printed
pub use Rattle.bson_datum.specs.RawView
pub use Rattle.bson_values.specs.Refusal
pub use Rattle.bson_values.specs.Same
pub use Rattle.bson_values.specs.Stop
pub use Rattle.bson_values.specs.TextView
pub use Rattle.bson_values.specs.Value
pub use Rattle.bson_datum.specs.View
pub use Rattle.bson_values.specs.Wrapper
pub use Rattle.bson_values.specs.Returned
pub use Rattle.bson_reserved.specs.AcceptedView
pub use Rattle.bson_laws.specs.Unwrap
pub use Rattle.bson_laws.specs.UuidBytes
pub use Rattle.bson_laws.specs.Datum
pub use Rattle.bson_laws.specs.Depths
pub use Rattle.bson_laws.specs.Encodable
pub use Rattle.bson_laws.specs.Every
pub use Rattle.bson_laws.specs.Fits
pub use Rattle.bson_laws.specs.InRange
pub use Rattle.bson_laws.specs.Judged
pub use Rattle.bson_laws.specs.Means
pub use Rattle.bson_laws.specs.Owned
pub use Rattle.bson_laws.specs.Plain
pub use Rattle.bson_laws.specs.RawFree
pub use Rattle.bson_laws.specs.Reads
pub use Rattle.bson_laws.specs.ReadsFrom
pub use Rattle.bson_laws.specs.ReadsRaw
pub use Rattle.bson_laws.specs.Recursive
pub use Rattle.bson_laws.specs.Represented
pub use Rattle.bson_laws.specs.Settled
pub use Rattle.bson_laws.specs.Spell
pub use Rattle.bson_laws.specs.SuitsTrees
pub use Rattle.bson_laws.specs.Trees
pub use Rattle.bson_laws.specs.Unmarked
pub use Rattle.bson_laws.specs.Unrolled
pub use Rattle.bson_laws.specs.Views
pub use Rattle.bson_laws.specs.Writable
pub use Rattle.bson_laws.specs.Assembled
pub use Rattle.bson_laws.specs.FirstKeys
pub use Rattle.bson_assembled.specs.FreeKeys
pub use Rattle.bson_evolve_check.specs.Checks
pub use Rattle.bson_evolve_differences.specs.Differences
pub use Rattle.bson_evolve_differences.specs.Lists
pub use Rattle.bson_evolve_differences.specs.Mismatch
pub use Rattle.bson_evolve_differences.specs.Printed as PrintedReasons
pub use Rattle.bson_evolve_differences.specs.Reached
pub use Rattle.bson_evolve_differences.specs.Reasons
pub use Rattle.bson_evolve_differences.specs.Views as DifferenceViews
pub use Rattle.bson_evolve_laws.specs.Compatible
pub use Rattle.bson_evolve_laws.specs.First
pub use Rattle.bson_evolve_laws.specs.Placed
pub use Rattle.bson_evolve_laws.specs.PlainTest
pub use Rattle.bson_evolve_laws.specs.Rows as EvolveRows
pub use Rattle.bson_evolve_run.specs.Lines as EvolveLines
pub use Rattle.bson_evolve_run.specs.Number as EvolveNumber
pub use Rattle.bson_evolve_run.specs.Rows as CheckRows
pub use Rattle.bson_evolve_run.specs.TwoShapes
pub use Rattle.bson_infer_laws.specs.Above
pub use Rattle.bson_infer_laws.specs.Inferred
pub use Rattle.bson_infer_laws.specs.Join
pub use Rattle.bson_infer_run.specs.Files as InferFiles
pub use Rattle.bson_infer_run.specs.Infer
pub use Rattle.bson_infer_run.specs.Lines as InferLines
pub use Rattle.bson_infer_run.specs.NoWords
pub use Rattle.bson_infer_run.specs.Number as InferNumber
pub use Rattle.bson_infer_run.specs.Rows as InferRows
pub use Rattle.bson_infer_run.specs.SoundTest
pub use Rattle.bson_met.specs.Gives as MetGives
pub use Rattle.bson_met.specs.MetView
pub use Rattle.bson_met.specs.Nulls
pub use Rattle.bson_met.specs.OpenedView
pub use Rattle.bson_met.specs.ScalarView
pub use Rattle.bson_met.specs.ValueView as MetValueView
pub use Rattle.bson_texts.specs.ListsMarked
pub use Rattle.bson_wrapped.specs.Data
pub use Rattle.bson_raw_parts.specs.Putting as RawPutting
pub use Rattle.bson_raw_parts.specs.RawValueView
pub use Rattle.bson_de_raw.specs.Gives
pub use Rattle.bson_de_raw.specs.ReadsLossy
pub use Rattle.bson_de_tree.specs.Options as TreeOptions
pub use Rattle.bson_ser_stream.specs.Writing
pub use Rattle.bson_ser_parts.specs.Documents as PartsOfDocuments
pub use Rattle.bson_ser_parts.specs.Pairs as PartsOfPairs
pub use Rattle.bson_ser_parts.specs.Taking as PartsTaken
pub use Rattle.bson_ser_parts.specs.Variants as PartsOfVariants
pub use Rattle.bson_ser_parts.specs.Values as PartsOfValues
pub use Rattle.bson_ser_parts.specs.Fronts as FirstFields
pub use Rattle.bson_tree_laws.specs.Alike
pub use Rattle.bson_tree_laws.specs.TreeSpell
pub use Rattle.bson_ser_tree.specs.Answers as TreeAnswers
pub use Rattle.bson_writing.specs.Joined as TreeJoined
pub use Rattle.bson_writing.specs.Levels as TreeLevels
pub use Rattle.bson_ser_tree.specs.Made as TreeMade
pub use Rattle.bson_ser_tree.specs.Taking as TreeTaking
pub use Rattle.bson_source.specs.Taken
pub use Rattle.bson_source.specs.FirstDocument
pub use Rattle.bson_source.specs.FromSource
pub use Rattle.bson_type_data.specs.Answers as TypeAnswers
pub use Rattle.bson_type_data.specs.Extended as ExtendedTypes
pub use Rattle.bson_traits.specs.Laws as TypeLaws
pub use Rattle.bson_traits.specs.Maps
pub use Rattle.bson_traits.specs.Options
pub use Rattle.bson_type_data.specs.Scalars
pub use Rattle.bson_traits.specs.Sequences
pub use Rattle.bson_traits.specs.ShapeOf
pub use Rattle.bson_traits.specs.Structs
pub use Rattle.bson_type_data.specs.Trees as TypeTrees
pub use Rattle.bson_traits.specs.Prover.Equal
pub use Rattle.bson_traits.specs.Prover.ExtendedBack
pub use Rattle.bson_traits.specs.Prover.InTables
pub use Rattle.bson_traits.specs.Prover.MapsBack
pub use Rattle.bson_traits.specs.Prover.OptionsBack
pub use Rattle.bson_traits.specs.Prover.ScalarsBack
pub use Rattle.bson_traits.specs.Prover.SequencesBack
pub use Rattle.bson_traits.specs.Prover.StructsBack
pub use Rattle.bson_traits.specs.Prover.TreesBack
pub use Rattle.bson_structs.specs.FieldsAdded
pub use Rattle.bson_structs.specs.FieldsLeft
pub use Rattle.bson_structs.specs.Variants as OwnVariants
pub use Rattle.bson_structs.specs.Prover.VariantsBack
pub use Rattle.bson_types.specs.Typed
pub use Rattle.bson_types.specs.FromSource as TypedSource
pub use Rattle.bson_helpers.specs.Dates
pub use Rattle.bson_helpers.specs.Helpers
pub use Rattle.bson_helpers.specs.Marks
pub use Rattle.bson_program.specs.Command
pub use Rattle.bson_program.specs.Ends as RunEnds
pub use Rattle.bson_program.specs.FileLines
pub use Rattle.bson_program.specs.Input
pub use Rattle.bson_program.specs.OneShape
pub use Rattle.bson_program.specs.Prepared
pub use Rattle.bson_program.specs.Program
pub use Rattle.bson_program.specs.Run
pub use Rattle.bson_program.specs.ShapeWord
pub use Rattle.bson_recast_run.specs.Digits
pub use Rattle.bson_recast_run.specs.PrintedLines as RunLines
pub use Rattle.bson_recast_run.specs.Making as RunMaking
pub use Rattle.bson_recast_run.specs.Number as RunNumber
pub use Rattle.bson_recast_run.specs.Options as RunOptions
pub use Rattle.bson_ways_laws.specs.Simple
pub use Rattle.bson_ways_laws.specs.Ways
pub use Rattle.bson_tree_recast.specs.ByTree
pub use Rattle.bson_tree_recast.specs.Printed as RecastPrinted
pub use Rattle.bson_tree_recast.specs.Recast
pub use Rattle.bson_tree_recast.specs.Ways as TreeRecastWays
pub use Rattle.bson_recasting.specs.Recasting
pub use Rattle.bson_recasting.specs.RefusedLines
pub use Rattle.bson_recast_run.specs.Rows as RunRows
pub use Rattle.bson_migrate_run.specs.Lines
pub use Rattle.bson_migrate_run.specs.Migrating
pub use Rattle.bson_migrate_run.specs.Number as MigrateNumber
pub use Rattle.bson_migrate_run.specs.Rows as MigrateRows
