-- The text of an error of a check. Source: this library's own texts.
use Rattle.std.specs.Prelude.{codes}
use Rattle.bson_kinds.specs.Text.{Utf8}
use Rattle.bson_evolve_check.specs.declared.checking.CheckError.{CheckError}
use Rattle.bson_evolve_check.specs.declared.checking.CheckError.TheVariants.{OldNotPlain, NewNotPlain, NoMemory}

abbrev pub check_error_text : CheckError → Utf8
check_error_text OldNotPlain = codes "the old shape is not plain"
check_error_text NewNotPlain = codes "the new shape is not plain"
check_error_text NoMemory = codes "out of memory"
