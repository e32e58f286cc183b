-- What the fields of the tables contain, and the history that callers see.
use Rattle.tb_tables.specs.clauses.Changes.{history_of}
use Rattle.tb_tables.specs.clauses.Contents.{Contents, facts_of}
use Rattle.tb_tables.specs.clauses.Expiries.{is_in_expiries}
use Rattle.tb_tables.specs.clauses.History.{History}
use Rattle.tb_tables.specs.declared.tables.Tables.TheInside.{Inside}

abbrev pub contents_in : Inside → Contents
contents_in tables =
    record {
      accounts = tables.accounts.entries;
      transfers = tables.transfers;
      failed = tables.failed.keys;
      is_in_expiries = is_in_expiries tables.expiries;
    }

abbrev pub history_in : Inside → History
history_in tables = history_of tables.changes.items (facts_of (contents_in tables))
