-- The status and the lines of a migration that was done.
use Rattle.std.proofs.Common.{◌≡◌, ℕ, List, [], ◌∷◌, ◌++◌, codes, Ok, refl, ap, subst, sym, ◌∙◌}
use Rattle.std.specs.Prelude.{◌≢◌}
use Rattle.std.specs.Fmt.{decimal}
use Rattle.std.proofs.lemmas.List.{append_assoc}
use Rattle.bson_kinds.specs.Text.{Bytes, Utf8}
use Rattle.bson_values.specs.ErrorView.{read_failure, write_failure}
use Rattle.bson_values.specs.Refusal.{ReadFault, Failure}
use Rattle.bson_shape.specs.Form.{Form}
use Rattle.bson_tree_recast.specs.declared.error.RecastError.{RecastError}
use Rattle.bson_tree_recast.specs.declared.error.RecastError.TheVariants.{Read, Write, NoMemory}
use Rattle.bson_recasting.specs.RefusedLines.{read_refused_line}
use Rattle.bson_tree_recast.specs.Printed.{recast_error_text, read_refused, write_refused}
use Rattle.bson_tree_recast.specs.Recast.{Recast, writes, unread, unwritten, IsRefusal}
use Rattle.bson_program.specs.ShapeWord.{newline}
use Rattle.bson_migrate_run.specs.declared.migrating.Migration.{Migration}
use Rattle.bson_migrate_run.specs.declared.migrating.Refused.{Refused}
use Rattle.bson_migrate_run.specs.Lines.{of_document, refused_text, refused_lines, IsLine, AreLines}
use Rattle.bson_migrate_run.specs.Migrating.{NotRecast, Migrating, broken, migrated, migration_of, IsListed, AreListed, IsMigration}
use Rattle.bson_migrate_run.specs.Rows.{listed_status, AnswersMigration}
use Rattle.bson_migrate_run.proofs.Listing.{no_refusal}

text_ended : (n : ℕ) (said : Utf8) → of_document n said ++ newline ≡ of_document n (said ++ newline)
text_ended n said =
    append_assoc (codes "document ") (decimal n ++ (codes ": " ++ said)) newline
    ∙ ap (λ t. codes "document " ++ t) (append_assoc (decimal n) (codes ": " ++ said) newline ∙ ap (λ t. decimal n ++ t) (append_assoc (codes ": ") said newline))

-- two failures to read are one where the recasts that they make are
pub same_failure : (f g : Failure ReadFault) → unread f ≡ unread g → g ≡ f
same_failure f g e = cc

line_by : (n : ℕ) (r : Recast) (e : RecastError) → IsRefusal r e → e ≢ NoMemory → IsLine n r (of_document n (recast_error_text e) ++ newline)
line_by n (writes b) e h some = absurd (no_refusal b e h some)
line_by n (unread f) (Read e) h some =
    text_ended n (read_refused (read_failure e)) ∙ ap (λ g. of_document n (read_refused_line g)) (same_failure f (read_failure e) h)
line_by n (unread f) (Write e) h some = absurd h
line_by n (unread f) NoMemory h some = absurd (some refl)
line_by n (unwritten expected long) (Read e) h some = absurd cc
line_by n (unwritten expected long) (Write e) h some = (write_failure e, h, text_ended n (write_refused (write_failure e)))
line_by n (unwritten expected long) NoMemory h some = absurd (some refl)

line_is : (d : NotRecast) (x : Refused) → IsListed d x → IsLine d.number d.recast (refused_text x ++ newline)
line_is d x h = subst (λ n. IsLine d.number d.recast (of_document n (recast_error_text x.error) ++ newline)) (sym h.number) (line_by d.number d.recast x.error h.refusal h.cause)

-- the lines of the refused documents are those that must be written
lines_are : (ds : List NotRecast) (xs : List Refused) → AreListed ds xs → AreLines ds (refused_lines xs)
lines_are [] [] h = refl
lines_are [] (x ∷ xs) h = absurd h
lines_are (d ∷ ds) [] h = absurd h
lines_are (d ∷ ds) (x ∷ xs) h = (refused_text x ++ newline, refused_lines xs, line_is d x h.0, refl, lines_are ds xs h.1)

of_list : (s : Form) (bytes out : Bytes) (ds : List NotRecast) (xs : List Refused) → migration_of s bytes ≡ migrated out ds → AreListed ds xs → AnswersMigration (migration_of s bytes) (listed_status xs) out (refused_lines xs)
of_list s bytes out [] [] is h = record { answer = is; no_line = refl }
of_list s bytes out [] (x ∷ xs) is h = absurd h
of_list s bytes out (d ∷ ds) [] is h = absurd h
of_list s bytes out (d ∷ ds) (x ∷ xs) is h = record { first = d; others = ds; answer = is; say = lines_are (d ∷ ds) (x ∷ xs) h }

by_answer : (s : Form) (bytes : Bytes) (m : Migration) (r : Migrating) → migration_of s bytes ≡ r → IsMigration r (Ok m) → AnswersMigration (migration_of s bytes) (listed_status m.refused.items) m.output.items (refused_lines m.refused.items)
by_answer s bytes m (broken place) is h = absurd h
by_answer s bytes m (migrated out ds) is h = of_list s bytes m.output.items ds m.refused.items (is ∙ ap (λ o. migrated o ds) (sym h.0)) h.1

pub answers_of : (s : Form) (bytes : Bytes) (m : Migration) → IsMigration (migration_of s bytes) (Ok m) → AnswersMigration (migration_of s bytes) (listed_status m.refused.items) m.output.items (refused_lines m.refused.items)
answers_of s bytes m h = by_answer s bytes m (migration_of s bytes) refl h
