-- What the words of a command line ask for. Source: this library's own programs.
use Rattle.std.specs.Prelude.{◌≡◌, List, Result, Ok, Err, string_bytes, String}
use Rattle.std.specs.declared.alloc.Global.{Global}
use Rattle.bson_kinds.specs.Text.{Utf8}

-- the words that ask for a job, and those that ask for none
pub record Command (Job : Type 0) : Type 1 where
  -- the words ask for this job
  pub AsksFor : List Utf8 → Job → Type 0
  -- the words ask for none, as this line tells
  pub Refuses : List Utf8 → (line : Utf8) → Type 0
  -- the job that words ask for, or the line that refuses them
  pub request : List Utf8 → Result Job Utf8

-- The words ask for this job.
pub record IsAskedFor {Job : Type 0} (c : Command Job) (words : List Utf8) (job : Job) : Type 0 where
  pub asks : c.AsksFor words job
  pub is : c.request words ≡ Ok job

-- The words ask for none, as this line tells.
pub record IsRefused {Job : Type 0} (c : Command Job) (words : List Utf8) (line : Utf8) : Type 0 where
  pub refuses : c.Refuses words line
  pub is : c.request words ≡ Err line

-- the job that the words ask for, or the line that refuses them
abbrev pub Asked : {Job : Type 0} → Command Job → List Utf8 → Result Job (String Global) → Type 0
Asked c words (Ok job) = IsAskedFor c words job
Asked c words (Err line) = IsRefused c words (string_bytes line)
